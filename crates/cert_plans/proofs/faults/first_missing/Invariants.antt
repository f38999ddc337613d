use Rattle.cert_plans.proofs.FaultsLearning.{Reached}
use Rattle.cert_plans.proofs.faults.first_missing.Given as goal

abbrev pub invariant-loop-index : goal.invariant-loop-index
invariant-loop-index l = Reached l.direction l.format l.known l.index
