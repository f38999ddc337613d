use Rattle.std.proofs.Common.{◌≡◌, ◌++◌, List, drop}
use Rattle.cert_types.specs.declared.rule.Fact.{Fact}
use Rattle.cert_rules.specs.Plans.{goals_from, goals_of}
use Rattle.cert_plans.specs.Knowing.{Knows}
use Rattle.cert_prove.specs.Searching.{missing_in}
use Rattle.cert_prove.proofs.gaps.missing_sides.Given as goal

abbrev pub invariant-loop-index : goal.invariant-loop-index
invariant-loop-index l = (facts : List Fact) → Knows l.known facts → l.sides ++ missing_in facts (goals_from l.direction l.format l.index (drop l.index l.format.fields)) ≡ missing_in facts (goals_of l.direction l.format)
