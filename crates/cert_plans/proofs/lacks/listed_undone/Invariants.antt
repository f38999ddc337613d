use Rattle.std.proofs.Common.{◌≡◌, drop, map}
use Rattle.cert_types.specs.declared.rule.Fact.TheVariants.{Done}
use Rattle.cert_rules.specs.Facts as spec
use Rattle.cert_plans.specs.Needing.{first_unknown}
use Rattle.cert_plans.proofs.lacks.listed_undone.Given as goal

abbrev pub invariant-loop-listed : goal.invariant-loop-listed
invariant-loop-listed l = first_unknown l.known (map Done (spec.before l.field (drop l.listed-index l.listing))) ≡ first_unknown l.known (map Done (spec.before l.field l.listing))
