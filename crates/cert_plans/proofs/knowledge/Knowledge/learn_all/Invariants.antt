use Rattle.std.proofs.Common.{◌≡◌, ◌&&◌, ◌||◌, nat_lt, drop}
use Rattle.cert_types.specs.declared.rule.Fact.{Fact}
use Rattle.cert_rules.specs.Facts.{has}
use Rattle.cert_plans.specs.Knowing as spec
use Rattle.cert_plans.proofs.knowledge.Knowledge.learn_all.Given as goal

abbrev pub invariant-loop-fact : goal.invariant-loop-fact
invariant-loop-fact l =
    ((x : Fact) → ((has (drop l.fact-index l.facts) x && nat_lt (spec.field_of x) (spec.width l.fn.self)) || spec.shows l.self x) ≡ ((has l.facts x && nat_lt (spec.field_of x) (spec.width l.fn.self)) || spec.shows l.fn.self x)) ×
    (spec.width l.self ≡ spec.width l.fn.self)
