-- What enabled steps learn, and the closure.
use Rattle.std.proofs.Common.{◌≡◌, refl, sym, ◌∙◌, ap, subst, ◌<◌, length, Bool, true, false, List, [], ◌∷◌, ◌++◌, ◌⊎◌, inl, inr, arith}
use Rattle.std.specs.Prelude.{Option, Some, None, ◌&&◌, not}
use Rattle.std.proofs.lemmas.Bool.{and_from, and_parts}
use Rattle.cert_types.specs.declared.certificate.Step.{Step}
use Rattle.cert_types.specs.declared.rule.Fact.{Fact}
use Rattle.cert_types.specs.declared.rule.Rule.{Rule}
use Rattle.cert_rules.specs.Facts.{has, has_all, has_none}
use Rattle.cert_rules.specs.Plans.{Goal, Way, enabled, learnt, known_after, all_enabled, is_complete, IsPlan}
use Rattle.cert_prove.specs.declared.fault.FieldSide.{FieldSide}
use Rattle.cert_prove.specs.Closure.{Closure, at_first, by_step, Every, every_none, every_more, side_of, Lacking, lacks_none, has_goal, lacks_goal}
use Rattle.cert_prove.specs.Ordered.{is_next, next_step, Follows}
use Rattle.cert_prove.specs.Searching.{unlearnt, missing_in}
use Rattle.cert_prove.proofs.ClosureElements.{Among, not_found, found_passes}
use Rattle.cert_prove.proofs.ClosureSets.{either, has_cases, has_left, has_right, all_has, has_all_from, has_none_cases}

misses_here : (b r : Bool) (side : FieldSide) (rest : List FieldSide) → (b && r) ≡ false → (r ≡ false → 0 < length rest) → 0 < length (unlearnt b side ++ rest)
misses_here true r side rest e h = h e
misses_here false r side rest e h = omega arith

-- where a goal isn't reached, a side is missing
pub incomplete_misses : (known : List Fact) (goals : List Goal) → is_complete goals known ≡ false → 0 < length (missing_in known goals)
incomplete_misses known [] e = absurd (cc)
incomplete_misses known (goal ∷ goals) e = misses_here (has_all known goal.facts) (is_complete goals known) (side_of goal) (missing_in known goals) e (λ h. incomplete_misses known goals h)

module _ (way : Way) where
  -- ---- enabled steps stay in the closure

  gives_stay : (step : Step) (o : Option Rule) (known : List Fact) → way.rule step ≡ o → enabled known o ≡ true → ((x : Fact) → has known x ≡ true → Closure way x) →
      (x : Fact) → has (learnt o ++ known) x ≡ true → Closure way x
  gives_stay step None known is e h x k = absurd (cc)
  gives_stay step (Some r) known is e h x k = by (has_cases r.gives known x k) where
    by : (has r.gives x ≡ true) ⊎ (has known x ≡ true) → Closure way x
    by (inl g) = by_step step r is (λ y n. h y (all_has known r.needs y (and_parts (has_all known r.needs) (has_none known r.absent) e).0 n)) g
    by (inr g) = h x g

  stays : (steps : List Step) (known : List Fact) → ((x : Fact) → has known x ≡ true → Closure way x) → all_enabled way.rule known steps ≡ true →
      (x : Fact) → has (known_after way.rule known steps) x ≡ true → Closure way x
  stays [] known h e x k = h x k
  stays (step ∷ steps) known h e x k =
      let b = and_parts (enabled known (way.rule step)) (all_enabled way.rule (learnt (way.rule step) ++ known) steps) e in
      stays steps (learnt (way.rule step) ++ known) (gives_stay step (way.rule step) known refl b.0 h) b.1 x k

  pub stays_in : (steps : List Step) → all_enabled way.rule way.start steps ≡ true → (x : Fact) → has (known_after way.rule way.start steps) x ≡ true → Closure way x
  stays_in steps e = stays steps way.start (λ x h. at_first h) e

  -- ---- a run that stops has the whole closure

  -- what hinders a step's rule comes of that step alone, and the order has each step that has a rule
  pub record Orderly (order : List Step) : Type 0 where
    pub once : (s t : Step) (r q : Rule) (x : Fact) → way.rule s ≡ Some r → way.rule t ≡ Some q → has r.absent x ≡ true → has q.gives x ≡ true → s ≡ t
    pub fresh : (s : Step) (r : Rule) (x : Fact) → way.rule s ≡ Some r → has r.absent x ≡ true → has way.start x ≡ true → ⊥
    pub covers : (s : Step) (r : Rule) → way.rule s ≡ Some r → Among s order

  -- a step that is hindered has given all that it gives
  abbrev Blocked : List Fact → Type 0
  Blocked known = (s : Step) (r : Rule) (x : Fact) → way.rule s ≡ Some r → has r.absent x ≡ true → has known x ≡ true → (y : Fact) → has r.gives y ≡ true → has known y ≡ true

  module _ (order : List Step) (orderly : Orderly order) where
    blocked_next : (t : Step) (o : Option Rule) (known : List Fact) → way.rule t ≡ o → Blocked known → Blocked (learnt o ++ known)
    blocked_next t None known is b = b
    blocked_next t (Some q) known is b = λ s r x rs ab k y g. either (λ h.
        let same = orderly.once s t r q x rs is ab h in
        let e : r ≡ q = let f : Some r ≡ Some q = sym rs ∙ (ap way.rule same ∙ is) in cc in
        has_left q.gives known y (subst (λ (z : Rule). has z.gives y ≡ true) e g)) (λ h. has_right q.gives known y (b s r x rs ab h y g)) (has_cases q.gives known x k)

    blocked_after : (steps : List Step) (known : List Fact) → Blocked known → Blocked (known_after way.rule known steps)
    blocked_after [] known b = b
    blocked_after (t ∷ steps) known b = blocked_after steps (learnt (way.rule t) ++ known) (blocked_next t (way.rule t) known refl b)

    grows : (steps : List Step) (known : List Fact) (x : Fact) → has known x ≡ true → has (known_after way.rule known steps) x ≡ true
    grows [] known x h = h
    grows (t ∷ steps) known x h = grows steps (learnt (way.rule t) ++ known) x (has_right (learnt (way.rule t)) known x h)

    module _ (known : List Fact) (starts : (x : Fact) → has way.start x ≡ true → has known x ≡ true) (blocked : Blocked known) (stopped : next_step way.rule order known ≡ None) where
      not_next : (s : Step) (r : Rule) → way.rule s ≡ Some r → is_next known (Some r) ≡ false
      not_next s r is = ap (is_next known) (sym is) ∙ not_found (λ step. is_next known (way.rule step)) s order stopped (orderly.covers s r is)

      all_given : (r : Rule) (b : Bool) → has_all known r.gives ≡ b → (enabled known (Some r) && not b) ≡ false → enabled known (Some r) ≡ true → b ≡ true
      all_given r true g e n = refl
      all_given r false g e n = absurd (let u = and_from (enabled known (Some r)) true n refl in cc)

      given : (s : Step) (r : Rule) (x : Fact) → way.rule s ≡ Some r → has_all known r.needs ≡ true → has r.gives x ≡ true → has known x ≡ true
      given s r x is met g = either
          (λ free. all_has known r.gives x (all_given r (has_all known r.gives) refl (not_next s r is) (and_from (has_all known r.needs) (has_none known r.absent) met free)) g)
          (λ h. blocked s r h.0 is h.1 h.2 x g) (has_none_cases known r.absent)

      closes : {x : Fact} → Closure way x → has known x ≡ true
      closes (at_first h) = starts _ h
      closes {x} (by_step s r is needs g) = given s r x is (has_all_from known r.needs (λ y n. closes (needs y n))) g

    pub runs_out : (steps : List Step) → next_step way.rule order (known_after way.rule way.start steps) ≡ None → {x : Fact} → Closure way x → has (known_after way.rule way.start steps) x ≡ true
    runs_out steps stopped =
        closes (known_after way.rule way.start steps) (λ x h. grows steps way.start x h)
        (blocked_after steps way.start (λ s r x is ab h. absurd (orderly.fresh s r x is ab h))) stopped

  -- ---- what is missing

  every_from : (known : List Fact) → ((x : Fact) → has known x ≡ true → Closure way x) → (xs : List Fact) → has_all known xs ≡ true → Every (Closure way) xs
  every_from known h [] e = every_none
  every_from known h (x ∷ xs) e = let b = and_parts (has known x) (has_all known xs) e in every_more (h x b.0) (every_from known h xs b.1)

  every_to : (known : List Fact) → ((x : Fact) → Closure way x → has known x ≡ true) → {xs : List Fact} → Every (Closure way) xs → has_all known xs ≡ true
  every_to known h every_none = refl
  every_to known h (every_more {x} {xs} p ps) = and_from (has known x) (has_all known xs) (h x p) (every_to known h ps)

  module _ (known : List Fact) (sound : (x : Fact) → has known x ≡ true → Closure way x) (whole : (x : Fact) → Closure way x → has known x ≡ true) where
    missing_here : (goal : Goal) (goals : List Goal) (sides : List FieldSide) (b : Bool) → has_all known goal.facts ≡ b → Lacking (Closure way) goals sides → Lacking (Closure way) (goal ∷ goals) (unlearnt b (side_of goal) ++ sides)
    missing_here goal goals sides true e h = has_goal (every_from known sound goal.facts e) h
    missing_here goal goals sides false e h = lacks_goal (λ g. absurd (let t : true ≡ false = sym (every_to known whole g) ∙ e in cc)) h

    -- the sides of which something isn't known are those that the closure lacks
    pub missing : (goals : List Goal) → Lacking (Closure way) goals (missing_in known goals)
    missing [] = lacks_none
    missing (goal ∷ goals) = missing_here goal goals (missing_in known goals) (has_all known goal.facts) refl (missing goals)

  complete_lacks : (known : List Fact) → ((x : Fact) → has known x ≡ true → Closure way x) → {goals : List Goal} {side : FieldSide} {rest : List FieldSide} →
      Lacking (Closure way) goals (side ∷ rest) → is_complete goals known ≡ true → ⊥
  complete_lacks known h (has_goal {goal = g} {goals} some more) e = complete_lacks known h more (and_parts (has_all known g.facts) (is_complete goals known) e).1
  complete_lacks known h (lacks_goal {goal = g} {goals} none more) e = none (every_from known h g.facts (and_parts (has_all known g.facts) (is_complete goals known) e).0)

  pub no_plan : (side : FieldSide) (rest : List FieldSide) → Lacking (Closure way) way.goals (side ∷ rest) → (steps : List Step) → IsPlan way steps → ⊥
  no_plan side rest lacking steps plan = complete_lacks (known_after way.rule way.start steps) (stays_in steps plan.enabled) lacking plan.complete

  -- ---- plans of the order

  next_enabled : (known : List Fact) (o : Option Rule) → is_next known o ≡ true → enabled known o ≡ true
  next_enabled known None e = absurd (cc)
  next_enabled known (Some r) e = (and_parts (enabled known (Some r)) (not (has_all known r.gives)) e).0

  -- each step that follows the order is enabled
  pub follows_enabled : (order steps : List Step) (known : List Fact) → Follows way order known steps → all_enabled way.rule known steps ≡ true
  follows_enabled order [] known h = refl
  follows_enabled order (step ∷ steps) known h =
      let next = found_passes (λ step. is_next known (way.rule step)) step order h.1 in
      and_from (enabled known (way.rule step)) (all_enabled way.rule (learnt (way.rule step) ++ known) steps) (next_enabled known (way.rule step) next)
      (follows_enabled order steps (learnt (way.rule step) ++ known) h.2)
