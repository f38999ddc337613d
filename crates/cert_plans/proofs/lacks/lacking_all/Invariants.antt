use Rattle.std.proofs.Common.{◌≡◌, drop}
use Rattle.cert_rules.specs.Facts.{inputs_of_all}
use Rattle.cert_plans.specs.Needing.{first_unknown, IsSure}
use Rattle.cert_plans.proofs.lacks.lacking_all.Given as goal

abbrev pub invariant-loop-expr : goal.invariant-loop-expr
invariant-loop-expr l = (first_unknown l.known (inputs_of_all l.format (drop l.expr-index l.exprs)) ≡ first_unknown l.known (inputs_of_all l.format l.exprs)) × IsSure l.known l.format l.sure
