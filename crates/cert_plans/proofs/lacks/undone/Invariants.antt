use Rattle.std.proofs.Common.{◌≡◌, drop}
use Rattle.cert_types.specs.declared.rule.Fact.TheVariants.{Done}
use Rattle.cert_rules.specs.Facts as spec
use Rattle.cert_plans.specs.Needing.{first_unknown}
use Rattle.cert_plans.proofs.lacks.undone.Given as goal

abbrev pub invariant-loop-index : goal.invariant-loop-index
invariant-loop-index l = first_unknown l.known (spec.of_headers Done l.index (drop l.index l.fields)) ≡ first_unknown l.known (spec.of_headers Done 0 l.fields)
