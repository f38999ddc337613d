-- The steps of the loop, up to its ends.
use Rattle.std.proofs.Common.{◌≡◌, sym, ◌∙◌, ap, subst, ℕ, ◌^◌, ◌<◌, ◌≤◌, true, false, List, [], ◌∷◌, ◌++◌, length, arith, find}
use Rattle.std.specs.Prelude.{Option, Some, None, nat_lt, ◌&&◌, ◌||◌, ◌↔◌, map}
use Rattle.std.specs.List.{AllByRecursion, list_all}
use Rattle.std.proofs.lemmas.List.{length-append}
use Rattle.sem_profile.specs.declared.profile.Format.{Format}
use Rattle.sem_profile.specs.declared.profile.FormatSizes.{FormatSizes}
use Rattle.sem_profile.specs.declared.profile.MethodSizes.{MethodSizes}
use Rattle.cert_types.specs.declared.certificate.Version.{Version}
use Rattle.cert_types.specs.declared.certificate.Direction.{Direction}
use Rattle.cert_types.specs.declared.certificate.Step.{Step}
use Rattle.cert_types.specs.declared.certificate.Step.TheVariants.{Take, Call, LibraryUp, LibraryDown, MethodLength, ConstraintLength, Solve, Choose, Ask}
use Rattle.cert_types.specs.declared.rule.Fact.{Fact}
use Rattle.cert_types.specs.declared.rule.Rule.{Rule}
use Rattle.cert_types.specs.Kept.{IsStepKept, step_limit}
use Rattle.cert_rules.specs.Facts.{has}
use Rattle.cert_rules.specs.Plans.{Way, way_of, learnt, known_after, is_complete}
use Rattle.cert_plans.specs.declared.knowledge.Knowledge.{Knowledge}
use Rattle.cert_plans.specs.Knowing.{field_of, shows, width, Knows}
use Rattle.cert_plans.specs.Judging.{GivesWithin}
use Rattle.cert_plans.proofs.KnowingFollowing.{all_known, knows_more}
use Rattle.cert_plans.proofs.FaultsGivens.{rule_gives}
use Rattle.cert_plans.proofs.Judged.{after_both}
use Rattle.cert_prove.specs.declared.fault.FieldSide.{FieldSide}
use Rattle.cert_prove.specs.declared.plan.End.{End}
use Rattle.cert_prove.specs.declared.plan.End.TheVariants.{Complete, Stopped, Full}
use Rattle.cert_prove.specs.declared.possible.Possible.{Possible}
use Rattle.cert_prove.specs.Closure.{Closure}
use Rattle.cert_prove.specs.Following.{EndsSo, IsFollowed}
use Rattle.cert_prove.specs.Order.{order_of}
use Rattle.cert_prove.specs.Ordered.{next_step, Follows}
use Rattle.cert_prove.specs.Refusals.{NeverLearns}
use Rattle.cert_prove.specs.Searching.{Ruled, ruled, possible_of, gives_more, missing_in}
use Rattle.cert_prove.proofs.ClosureSets.{has_left, has_all_from}
use Rattle.cert_prove.proofs.ClosureLemmas.{follows_enabled, incomplete_misses, missing}
use Rattle.cert_prove.proofs.OrderCovering.{all_there_is}
use Rattle.cert_prove.proofs.Searched.{rule_found, next_found, none_found}
use Rattle.cert_prove.proofs.OrderShapes.{Within, Shape, shape}

-- one more step that follows
follows_more : (way : Way) (order : List Step) (steps : List Step) (known : List Fact) (step : Step) → Follows way order known steps →
    is_complete way.goals (known_after way.rule known steps) ≡ false → next_step way.rule order (known_after way.rule known steps) ≡ Some step → Follows way order known (steps ++ step ∷ [])
follows_more way order [] known step h unmet next = (unmet, next, tt)
follows_more way order (x ∷ steps) known step h unmet next = (h.0, h.1, follows_more way order steps (learnt (way.rule x) ++ known) step h.2 unmet next)

-- a number of a constraint is below their count
kept_within : (s : Step) (n : ℕ) → n < 2 ^ 64 → Within s n → IsStepKept s
kept_within (ConstraintLength i side k) n few h = omega (arith, few, h)
kept_within (Solve i k) n few h = omega (arith, few, h)
kept_within (Take i) n few h = tt
kept_within (Call i) n few h = tt
kept_within (LibraryUp i) n few h = tt
kept_within (LibraryDown i) n few h = tt
kept_within (MethodLength i side) n few h = tt
kept_within (Choose i) n few h = tt
kept_within (Ask i) n few h = tt

all_more : {X : Type 0} (P : X → Type 0) (xs : List X) (x : X) → AllByRecursion P xs → P x → AllByRecursion P (xs ++ x ∷ [])
all_more P [] x a h = (h, tt)
all_more P (y ∷ xs) x a h = (a.0, all_more P xs x a.1 h)

module _ (version : Version) (direction : Direction) (table : List MethodSizes) (sizes : FormatSizes) (format : Format) where
  abbrev way : Way
  way = way_of version direction table sizes format

  abbrev order : List Step
  order = order_of direction format

  -- the steps so far follow the order, and what is known after them is just what the knowledge shows
  pub record SoFar (steps : List Step) (known : Knowledge) : Type 0 where
    pub follows : Follows way order way.start steps
    pub knows : Knows known (known_after way.rule way.start steps)
    pub width_is : width known ≡ length format.fields
    pub few : length steps ≤ step_limit
    pub kept : AllByRecursion IsStepKept steps

  pub begins : (known : Knowledge) → Knows known way.start → width known ≡ length format.fields → SoFar [] known
  begins known knows same = record { follows = tt; knows = knows; width_is = same; few = omega arith; kept = tt }

  module _ (steps : List Step) (known : Knowledge) (so : SoFar steps known) where
    abbrev after : List Fact
    after = known_after way.rule way.start steps

    module _ (p : Ruled) (new : Knowledge) (gives : List Fact) (found : find (λ p. gives_more (shows known) p.rule) (possible_of way.rule order) ≡ Some p) (same : gives ≡ p.rule.gives)
        (learns : (x : Fact) → shows new x ≡ ((has gives x && nat_lt (field_of x) (width known)) || shows known x)) where
      knows_then : Knows new (p.rule.gives ++ after)
      knows_then =
          let rule : way.rule p.step ≡ Some p.rule = rule_found known after so.knows way.rule order p found in
          let within : GivesWithin (width known) (Some p.rule) = subst (λ n. GivesWithin n (Some p.rule)) (sym so.width_is) (subst (GivesWithin (length format.fields)) rule (rule_gives version direction table sizes format p.step)) in
          knows_more known new p.rule after (λ x. learns x ∙ ap (λ z. (has z x && nat_lt (field_of x) (width known)) || shows known x) same) within so.knows

      -- all that a step gives is known then
      pub given_then : list_all (shows new) p.rule.gives ≡ true
      given_then = all_known new (p.rule.gives ++ after) knows_then p.rule.gives ∙ has_all_from (p.rule.gives ++ after) p.rule.gives (λ x e. has_left p.rule.gives after x e)

      -- one more step
      pub goes_on : (more : List Step) → length format.constraints < 2 ^ 64 → is_complete way.goals after ≡ false → (length steps ≡ step_limit → ⊥) → more ≡ steps ++ p.step ∷ [] → width new ≡ width known → SoFar more new
      goes_on more below unmet short pushed wide =
          let rule : way.rule p.step ≡ Some p.rule = rule_found known after so.knows way.rule order p found in
          let next = next_found known after so.knows way.rule order p found in
          let full : p.rule.gives ++ after ≡ known_after way.rule way.start (steps ++ p.step ∷ []) = ap (λ (o : Option Rule). learnt o ++ after) (sym rule) ∙ sym (after_both way.rule way.start steps (p.step ∷ [])) in
          let shaped : Shape format p.step p.rule = shape version sizes format table direction p.step p.rule rule in
          subst (λ z. SoFar z new) (sym pushed) record {
            follows = follows_more way order steps way.start p.step so.follows unmet next;
            knows = subst (Knows new) full knows_then;
            width_is = wide ∙ so.width_is;
            few = let old = so.few in let longer = length-append steps (p.step ∷ []) in omega (arith, old, longer, short);
            kept = all_more IsStepKept steps p.step so.kept (kept_within p.step (length format.constraints) below shaped.within);
          }

    -- nothing is wanted, or as many steps as a plan may have
    pub completes : is_complete way.goals after ≡ true → EndsSo way steps known Complete
    completes e = e

    pub passes : is_complete way.goals after ≡ false → length steps ≡ step_limit → EndsSo way steps known Full
    passes unmet many = (unmet, many)

    -- none is next
    pub stops : is_complete way.goals after ≡ false → find (λ p. gives_more (shows known) p.rule) (possible_of way.rule order) ≡ None → EndsSo way steps known Stopped
    stops unmet none =
        let all = all_there_is version sizes format direction table steps (follows_enabled way order steps way.start so.follows) (none_found known after so.knows way.rule order none) in
        (unmet, λ x. subst (λ z. (z ≡ true) ↔ Closure way x) (sym (so.knows x)) (all x))

    -- what is handed on
    pub followed : (found : List Possible) (end : End) → map (ruled format) found ≡ possible_of way.rule order → EndsSo way steps known end →
        IsFollowed version direction table sizes format record { possible = found; steps = steps; known = known; end = end }
    followed found end is ends = record { possible = is; follows = so.follows; kept = record { few = so.few; each = so.kept }; knows = so.knows; ends = ends }

  -- the sides that are wanted where no step is next are those that no steps learn
  pub never_learns : (steps : List Step) (known : Knowledge) (sides : List FieldSide) → Knows known (known_after way.rule way.start steps) → EndsSo way steps known Stopped →
      sides ≡ missing_in (known_after way.rule way.start steps) way.goals → NeverLearns way sides
  never_learns steps known sides knows ends is =
      let all : (x : Fact) → (has (known_after way.rule way.start steps) x ≡ true) ↔ Closure way x = λ x. subst (λ z. (z ≡ true) ↔ Closure way x) (knows x) (ends.1 x) in
      subst (NeverLearns way) (sym is) record {
        lacking = missing way (known_after way.rule way.start steps) (λ x h. (all x).0 h) (λ x h. (all x).1 h) way.goals;
        some = incomplete_misses (known_after way.rule way.start steps) way.goals ends.0;
      }
