use Rattle.std.proofs.lemmas.Result.{IfOk-weaker}
use Rattle.text_methods.proofs.KeptLemmas.{of_own}
use Rattle.text_methods.proofs.drafts.format_fields.Goals as goal

pub returns : goal.returns
returns c = IfOk-weaker c.with.result _ _ (λ table grows. of_own c.args.setting.now c.args.own.now c.args.kept.now table c.requires grows) c.with.ensures
