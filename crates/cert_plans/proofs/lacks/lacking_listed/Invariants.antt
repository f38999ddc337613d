use Rattle.std.proofs.Common.{◌≡◌, drop, map}
use Rattle.sem_expr.specs.declared.expr.Side.TheVariants.{Compressed}
use Rattle.cert_rules.specs.Facts as spec
use Rattle.cert_plans.specs.Needing.{first_unknown}
use Rattle.cert_plans.proofs.lacks.lacking_listed.Given as goal

abbrev pub invariant-loop-listed : goal.invariant-loop-listed
invariant-loop-listed l = first_unknown l.known (map (spec.fact_of Compressed l.measure) (drop l.listed-index l.listing)) ≡ first_unknown l.known (map (spec.fact_of Compressed l.measure) l.listing)
