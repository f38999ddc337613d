use Rattle.std.proofs.Common.{rules}
use Rattle.sem_reasons.specs.Settings.{setting_of}
use Rattle.sem_reasons.proofs.ReasonsMaking.{verdict_alone}
use Rattle.sem_reasons.proofs.verdicts.reasons_against.Goals as goal

pub returns : goal.returns
returns c = verdict_alone (setting_of c.args.question.now) c.args.format _ _ (search rules) c.in_ok-add_verdict.ensures
