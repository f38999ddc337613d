-- The steps that have a rule, and the search among them.
use Rattle.std.specs.Prelude.{◌≡◌, ◌⊎◌, ℕ, ◌*◌, ◌^◌, ◌<◌, ◌≤◌, Bool, true, false, List, [], ◌∷◌, ◌++◌, length, drop, get_or, slice_get, Option, Some, None, option_map, ◌&&◌, ◌||◌, not, if◌then◌else◌}
use Rattle.std.specs.List.{filter_map, list_all}
use Rattle.sem_expr.specs.declared.expr.Side.{Side}
use Rattle.sem_expr.specs.declared.expr.Side.TheVariants.{Uncompressed, Compressed}
use Rattle.cert_types.specs.declared.certificate.Direction.{Direction}
use Rattle.cert_types.specs.declared.certificate.Step.{Step}
use Rattle.cert_types.specs.declared.rule.Fact.{Fact}
use Rattle.cert_types.specs.declared.rule.Rule.{Rule}
use Rattle.sem_profile.specs.declared.profile.Format.{Format}
use Rattle.cert_rules.specs.Facts.{has, has_all}
use Rattle.cert_rules.specs.Plans.{Goal, goals_from, goals_of, is_complete}
use Rattle.cert_plans.specs.Knowing.{enables}
use Rattle.cert_plans.specs.Judging.{is_learnt}
use Rattle.cert_plans.specs.Needing.{told}
use Rattle.cert_prove.specs.declared.fault.FieldSide.{FieldSide}
use Rattle.cert_prove.specs.declared.possible.Possible.{Possible}
use Rattle.cert_prove.specs.declared.rest.Rest.{Rest}
use Rattle.cert_prove.specs.declared.rest.Rest.TheVariants.{Due, Until, Over}
use Rattle.cert_prove.specs.Closure.{side_of}
use Rattle.cert_prove.specs.Marking.{IsDue, IsInRow}

-- a step with its rule
pub record Ruled : Type 0 where
  pub step : Step
  pub rule : Rule

-- one that may be enabled, with the facts of its rule
abbrev pub ruled : Format → Possible → Ruled
ruled format p = record { step = p.step; rule = told format p.rule }

-- the step with its rule, if it has one
abbrev pub with_rule : Step → Option Rule → Option Ruled
with_rule step rule = option_map (λ r. record { step = step; rule = r }) rule

-- of these steps those that have a rule
abbrev pub possible_of : (Step → Option Rule) → List Step → List Ruled
possible_of rules steps = filter_map (λ step. with_rule step (rules step)) steps

-- by what is known: the rule is enabled and gives something new
abbrev pub gives_more : (Fact → Bool) → Rule → Bool
gives_more known r = enables known r && not (list_all known r.gives)

-- all that it gives is known, or something hinders it
abbrev pub gives_none : (Fact → Bool) → Rule → Bool
gives_none known r = list_all known r.gives || not (list_all (λ x. not (known x)) r.absent)

-- all that the first knows the second knows
abbrev pub KnowsAll : (Fact → Bool) → (Fact → Bool) → Type 0
KnowsAll known more = (x : Fact) → known x ≡ true → more x ≡ true

-- whatever more is known, all of these facts are just where all that is needed is
abbrev pub StandFor : (Fact → Bool) → List Fact → List Fact → Type 0
StandFor known needs left = (more : Fact → Bool) → KnowsAll known more → list_all more left ≡ list_all more needs

-- a fact of these needs that isn't known, whatever more is; or all are known
abbrev pub LacksFor : (Fact → Bool) → List Fact → Option Fact → Type 0
LacksFor known needs (Some x) = (known x ≡ false) × ((more : Fact → Bool) → KnowsAll known more → more x ≡ false → list_all more needs ≡ false)
LacksFor known needs None = list_all known needs ≡ true

-- those that are left, once they are written out
abbrev pub StandIfWritten : (Fact → Bool) → List Fact → Option (List Fact) → Type 0
StandIfWritten known needs None = Unit {0}
StandIfWritten known needs (Some left) = StandFor known needs left

-- the same of each step
pub record AreLeft (known : Fact → Bool) (format : Format) (possible : List Possible) (needs : List (Option (List Fact))) : Type 0 where
  pub each : length needs ≡ length possible
  pub right : (i : ℕ) (p : Possible) → slice_get possible i ≡ Some p → StandIfWritten known (told format p.rule).needs (get_or needs i None)

-- why a step of the rule needn't be looked at, whatever more is known: while the fact isn't, not all is that the rule needs; or it gives nothing new
abbrev pub RestsBy : (Fact → Bool) → Rule → Rest → Type 0
RestsBy known r Due = Unit {0}
RestsBy known r (Until x) = (more : Fact → Bool) → KnowsAll known more → more x ≡ false → list_all more r.needs ≡ false
RestsBy known r Over = (more : Fact → Bool) → KnowsAll known more → gives_more more r ≡ false

-- and it needn't still
abbrev pub is_still : (Fact → Bool) → Rest → Bool
is_still known Due = false
is_still known (Until x) = not (known x)
is_still known Over = true

-- it has to be looked at
abbrev pub is_due : Rest → Bool
is_due Due = true
is_due (Until x) = false
is_due Over = false

-- it stands in the row of the fact that it waits for, if it waits for one
abbrev pub IsNotedFor : List ℕ → Rest → ℕ → Type 0
IsNotedFor noted Due i = Unit {0}
IsNotedFor noted (Until x) i = IsInRow noted x i
IsNotedFor noted Over i = Unit {0}

-- there is a reason why a step of the rule needn't be looked at, and it is noted
pub record Rests (known : Fact → Bool) (rule : Rule) (noted : List ℕ) (i : ℕ) : Type 0 where
  pub why : Rest
  pub right : RestsBy known rule why
  pub still : is_still known why ≡ true
  pub seen : IsNotedFor noted why i

-- There is room for all steps. Each of them that isn't due rests, or has the rule of the one that comes next, if one does.
pub record AreWaiting (known : Fact → Bool) (format : Format) (possible : List Possible) (due noted : List ℕ) (next : Option Rule) : Type 0 where
  pub enough : length possible ≤ 64 * length due
  pub rows : length noted ≡ 128 * length due
  pub few : 128 * length due < 2 ^ 64
  pub rests : (i : ℕ) (p : Possible) → slice_get possible i ≡ Some p → (IsDue due i → ⊥) → Rests known (told format p.rule) noted i ⊎ (next ≡ Some (told format p.rule))

-- both sides of a field are learnt
abbrev pub is_field_learnt : Direction → (Fact → Bool) → ℕ → Bool → Bool
is_field_learnt direction known i due = is_learnt direction known i due Uncompressed && is_learnt direction known i due Compressed

-- where all that is known is among the facts, the goals are reached just where those from the field n on are
abbrev pub AreLearntTo : Direction → Format → (Fact → Bool) → ℕ → Type 0
AreLearntTo direction format known n = (facts : List Fact) → ((x : Fact) → known x ≡ true → has facts x ≡ true) → is_complete (goals_of direction format) facts ≡ is_complete (goals_from direction format n (drop n format.fields)) facts

-- the side, where it isn't learnt
abbrev pub unlearnt : Bool → FieldSide → List FieldSide
unlearnt is_learnt side = if is_learnt then [] else side ∷ []

-- both sides of a field
abbrev pub unlearnt_sides : (Side → Bool) → ℕ → List FieldSide
unlearnt_sides is_learnt i = unlearnt (is_learnt Uncompressed) (record { field = i; side = Uncompressed }) ++ unlearnt (is_learnt Compressed) (record { field = i; side = Compressed })

-- the sides of the goals that the facts lack
abbrev pub missing_in : List Fact → List Goal → List FieldSide
missing_in known [] = []
missing_in known (goal ∷ goals) = unlearnt (has_all known goal.facts) (side_of goal) ++ missing_in known goals
