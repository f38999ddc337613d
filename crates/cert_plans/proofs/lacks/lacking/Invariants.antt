use Rattle.std.proofs.Common.{◌≡◌, drop}
use Rattle.cert_plans.specs.Needing.{facts_of_all, first_unknown, IsSure}
use Rattle.cert_plans.proofs.lacks.lacking.Given as goal

abbrev pub invariant-loop-need : goal.invariant-loop-need
invariant-loop-need l = (first_unknown l.known (facts_of_all l.format (drop l.need-index l.needs)) ≡ first_unknown l.known (facts_of_all l.format l.needs)) × IsSure l.known l.format l.sure
