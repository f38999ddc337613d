use Rattle.std.proofs.Common.{length}
use Rattle.cert_rules.specs.Plans.{way_of}
use Rattle.cert_plans.proofs.Judged.{Followed}
use Rattle.cert_plans.proofs.faults.plan_fault.Given as goal

abbrev pub invariant-loop-index : goal.invariant-loop-index
invariant-loop-index l = Followed (way_of l.version l.direction l.table l.sizes l.format) (length l.format.fields) l.steps l.index l.known
