-- A plan of the order (docs/DEFINITIONS.md, The order of a plan).
use Rattle.std.specs.Prelude.{◌≡◌, Bool, true, false, List, [], ◌∷◌, ◌++◌, length, Option, Some, None, ◌&&◌, not}
use Rattle.std.specs.List.{find}
use Rattle.cert_types.specs.declared.certificate.Step.{Step}
use Rattle.cert_types.specs.declared.rule.Fact.{Fact}
use Rattle.cert_types.specs.declared.rule.Rule.{Rule}
use Rattle.cert_types.specs.Kept.{step_limit}
use Rattle.cert_rules.specs.Facts.{has_all}
use Rattle.cert_rules.specs.Plans.{Way, enabled, learnt, known_after, is_complete}

-- the step is enabled and gives something that isn't known
abbrev pub is_next : List Fact → Option Rule → Bool
is_next known None = false
is_next known (Some r) = enabled known (Some r) && not (has_all known r.gives)

-- the first such step
abbrev pub next_step : (Step → Option Rule) → List Step → List Fact → Option Step
next_step rules order known = find (λ step. is_next known (rules step)) order

-- while something that is wanted isn't known, each step is the next one after those before it
abbrev pub Follows : Way → List Step → List Fact → List Step → Type 0
Follows way order known [] = Unit {0}
Follows way order known (step ∷ steps) = (is_complete way.goals known ≡ false) × (next_step way.rule order known ≡ Some step) × Follows way order (learnt (way.rule step) ++ known) steps

-- up to where all that is wanted is known
pub record OrderedPlan (way : Way) (order : List Step) (steps : List Step) : Type 0 where
  pub follows : Follows way order way.start steps
  pub complete : is_complete way.goals (known_after way.rule way.start steps) ≡ true

-- after as many steps as a plan may have, something is wanted still
pub record PassesLimit (way : Way) (order : List Step) : Type 0 where
  pub steps : List Step
  pub many : length steps ≡ step_limit
  pub follows : Follows way order way.start steps
  pub incomplete : is_complete way.goals (known_after way.rule way.start steps) ≡ false
