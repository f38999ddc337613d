use Rattle.std.proofs.Common.{◌≡◌, ◌++◌, drop, map}
use Rattle.cert_plans.specs.Knowing as spec
use Rattle.cert_plans.proofs.knowledge.Knowledge.at_start.Given as goal

abbrev pub invariant-loop-listed : goal.invariant-loop-listed
invariant-loop-listed l = l.fields ++ map spec.at_start (drop l.listed-index l.listed-items) ≡ map spec.at_start l.listed-items
