use Rattle.std.proofs.Common.{◌≡◌, drop}
use Rattle.sem_expr.specs.declared.expr.Side.TheVariants.{Uncompressed}
use Rattle.cert_rules.specs.Facts as spec
use Rattle.cert_plans.specs.Needing.{first_unknown}
use Rattle.cert_plans.proofs.lacks.lacking_headers.Given as goal

abbrev pub invariant-loop-index : goal.invariant-loop-index
invariant-loop-index l = first_unknown l.known (spec.of_headers (spec.fact_of Uncompressed l.measure) l.index (drop l.index l.fields)) ≡ first_unknown l.known (spec.of_headers (spec.fact_of Uncompressed l.measure) 0 l.fields)
