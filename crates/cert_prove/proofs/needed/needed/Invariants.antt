use Rattle.std.proofs.Common.{take}
use Rattle.cert_plans.specs.Needing.{facts_of_all}
use Rattle.cert_prove.specs.Needed.{AreWritten}
use Rattle.cert_prove.proofs.needed.needed.Given as goal

abbrev pub invariant-loop-need : goal.invariant-loop-need
invariant-loop-need l = AreWritten l.format (facts_of_all l.format (take l.need-index l.needs)) l.facts l.wholes
