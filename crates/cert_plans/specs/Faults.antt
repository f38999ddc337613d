-- What is wrong with a plan: the first step that isn't enabled, else the first side that is never learnt (docs/DEFINITIONS.md, Certificates).
use Rattle.std.specs.Prelude.{◌≡◌, ℕ, true, false, List, ◌∷◌, ◌++◌, length}
use Rattle.sem_expr.specs.declared.expr.Side.{Side}
use Rattle.cert_types.specs.declared.certificate.Step.{Step}
use Rattle.cert_rules.specs.Facts.{has_all}
use Rattle.cert_rules.specs.Plans.{Goal, Way, enabled, known_after, all_enabled, is_complete}
use Rattle.cert_plans.specs.declared.fault.PlanFault.{PlanFault}
use Rattle.cert_plans.specs.declared.fault.PlanFault.TheVariants.{NotEnabled, NeverLearnt}

-- the step of this index is the first that isn't enabled
pub record StopsAt (way : Way) (steps : List Step) (index : ℕ) : Type 0 where
  pub before : List Step
  pub step : Step
  pub after : List Step
  pub steps_are : steps ≡ before ++ step ∷ after
  pub index_is : length before ≡ index
  pub enabled_before : all_enabled way.rule way.start before ≡ true
  pub refused : enabled (known_after way.rule way.start before) (way.rule step) ≡ false

-- each step is enabled, and this side is the first that is not learnt
pub record Lacks (way : Way) (steps : List Step) (field : ℕ) (side : Side) : Type 0 where
  pub before : List Goal
  pub goal : Goal
  pub after : List Goal
  pub enabled : all_enabled way.rule way.start steps ≡ true
  pub goals_are : way.goals ≡ before ++ goal ∷ after
  pub field_is : goal.field ≡ field
  pub side_is : goal.side ≡ side
  pub learnt_before : is_complete before (known_after way.rule way.start steps) ≡ true
  pub lacks : has_all (known_after way.rule way.start steps) goal.facts ≡ false

-- what a fault says of the plan
abbrev pub IsPlanFault : Way → List Step → PlanFault → Type 0
IsPlanFault way steps (NotEnabled index) = StopsAt way steps index
IsPlanFault way steps (NeverLearnt field side) = Lacks way steps field side
