use Rattle.std.proofs.Common.{sym}
use Rattle.std.proofs.lemmas.List.{get_or_past}
use Rattle.cert_plans.proofs.Knowing.{past}
use Rattle.cert_prove.proofs.marks.word_at.Goals as goal

pub returns-in-None : goal.returns-in-None
returns-in-None c = sym (get_or_past c.args.words.now c.args.place 0 (past c.args.words.now c.args.place c.in-None.ensures.value))
