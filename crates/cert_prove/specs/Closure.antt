-- What the steps of a format can come to know (docs/DEFINITIONS.md, The order of a plan).
use Rattle.std.specs.Prelude.{◌≡◌, true, List, [], ◌∷◌, Some}
use Rattle.cert_types.specs.declared.certificate.Step.{Step}
use Rattle.cert_types.specs.declared.rule.Fact.{Fact}
use Rattle.cert_types.specs.declared.rule.Rule.{Rule}
use Rattle.cert_rules.specs.Facts.{has}
use Rattle.cert_rules.specs.Plans.{Goal, Way}
use Rattle.cert_prove.specs.declared.fault.FieldSide.{FieldSide}

-- the least set that has what is known at the start, and what each step gives whose needs it has
pub data Closure (way : Way) : Fact → Type 0 where
  at_first : {x : Fact} → has way.start x ≡ true → Closure way x
  by_step : {x : Fact} (step : Step) (r : Rule) → way.rule step ≡ Some r → ((y : Fact) → has r.needs y ≡ true → Closure way y) → has r.gives x ≡ true → Closure way x

-- each of the facts is in the set
pub data Every (P : Fact → Type 0) : List Fact → Type 0 where
  every_none : Every P []
  every_more : {x : Fact} {xs : List Fact} → P x → Every P xs → Every P (x ∷ xs)

-- the side of a goal
abbrev pub side_of : Goal → FieldSide
side_of goal = record { field = goal.field; side = goal.side }

-- just the sides of the goals of which the set lacks a fact, in their order
pub data Lacking (P : Fact → Type 0) : List Goal → List FieldSide → Type 0 where
  lacks_none : Lacking P [] []
  has_goal : {goal : Goal} {goals : List Goal} {sides : List FieldSide} → Every P goal.facts → Lacking P goals sides → Lacking P (goal ∷ goals) sides
  lacks_goal : {goal : Goal} {goals : List Goal} {sides : List FieldSide} → (Every P goal.facts → ⊥) → Lacking P goals sides → Lacking P (goal ∷ goals) (side_of goal ∷ sides)
