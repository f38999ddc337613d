-- What the judge of a plan keeps and answers.
use Rattle.std.specs.Prelude.{◌≡◌, ℕ, ◌<◌, Bool, true, false, List, ◌∷◌, ◌++◌, Option, Some, None, ◌&&◌, ◌||◌, not, if◌then◌else◌}
use Rattle.sem_expr.specs.declared.expr.Side.{Side}
use Rattle.sem_expr.specs.declared.expr.Side.TheVariants.{Uncompressed, Compressed}
use Rattle.sem_profile.specs.declared.profile.Field.{Field}
use Rattle.sem_filling.specs.Fillings.{is_header}
use Rattle.cert_types.specs.declared.certificate.Direction.{Direction}
use Rattle.cert_types.specs.declared.certificate.Direction.TheVariants.{Read, Write}
use Rattle.cert_types.specs.declared.rule.Fact.{Fact}
use Rattle.cert_types.specs.declared.rule.Fact.TheVariants.{BitsOf, Done}
use Rattle.cert_types.specs.declared.rule.Rule.{Rule}
use Rattle.cert_rules.specs.Facts.{has, has_all}
use Rattle.cert_rules.specs.Rules.{is_call}
use Rattle.cert_rules.specs.Plans.{Goal, is_told, learnt, is_complete}
use Rattle.cert_plans.specs.declared.fault.PlanFault.{PlanFault}
use Rattle.cert_plans.specs.declared.fault.PlanFault.TheVariants.{NotEnabled, NeverLearnt}
use Rattle.cert_plans.specs.declared.knowledge.Knowledge.{Knowledge}
use Rattle.cert_plans.specs.Knowing.{field_of, Knows}

-- what the rule gives is of the first so many fields
abbrev pub GivesWithin : ℕ → Option Rule → Type 0
GivesWithin n rule = (x : Fact) → has (learnt rule) x ≡ true → field_of x < n

-- whether a field that is listed or not has to be taken or called
abbrev pub is_due : Direction → Bool → Field → Bool
is_due Read listed d = listed || is_call d.encoding
is_due Write listed d = is_header d.declared.part || is_call d.encoding

-- a side of a field is learnt: its bits are known, and where it tells that a due field is done, that is known
abbrev pub is_learnt : Direction → (Fact → Bool) → ℕ → Bool → Side → Bool
is_learnt direction known i due side = known (BitsOf side i) && (not (is_told direction side && due) || known (Done i))

-- the first side that isn't
abbrev pub missing_side : Direction → (Fact → Bool) → ℕ → Bool → Option Side
missing_side direction known i due =
    if is_learnt direction known i due Uncompressed then (if is_learnt direction known i due Compressed then None else Some Compressed) else Some Uncompressed

-- the first goal that the facts lack is that side of the field
pub record Misses (goals : List Goal) (facts : List Fact) (field : ℕ) (side : Side) : Type 0 where
  pub before : List Goal
  pub goal : Goal
  pub after : List Goal
  pub goals_are : goals ≡ before ++ goal ∷ after
  pub field_is : goal.field ≡ field
  pub side_is : goal.side ≡ side
  pub learnt_before : is_complete before facts ≡ true
  pub lacks : has_all facts goal.facts ≡ false

-- by what is known: all goals are learnt, or which side is the first that isn't
abbrev pub Learns : List Goal → List Fact → Option PlanFault → Type 0
Learns goals facts None = is_complete goals facts ≡ true
Learns goals facts (Some (NotEnabled index)) = ⊥
Learns goals facts (Some (NeverLearnt field side)) = Misses goals facts field side

abbrev pub AreLearnt : List Goal → Knowledge → Option PlanFault → Type 0
AreLearnt goals known fault = (facts : List Fact) → Knows known facts → Learns goals facts fault
