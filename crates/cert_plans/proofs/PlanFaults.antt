-- The fault of a plan is one of the certificate's.
use Rattle.std.proofs.Common.{◌≡◌, refl, sym, ◌∙◌, ap, subst, ℕ, zero, suc, ◌<◌, List, [], ◌∷◌, ◌++◌, length, arith}
use Rattle.std.specs.Prelude.{Some, slice_get}
use Rattle.cert_rules.specs.declared.fault.CheckFault.TheVariants as check
use Rattle.cert_rules.specs.Plans.{way_of, known_after}
use Rattle.cert_rules.proofs.Plans.{goal_reached}
use Rattle.cert_rules.specs.Refusals.{IsRefused, steps_of, step_refused, side_unknown}
use Rattle.cert_plans.specs.declared.fault.PlanFault.TheVariants.{NotEnabled, NeverLearnt}
use Rattle.cert_plans.specs.Laws.{PlanFaultsRefuse}

-- the element between two parts
at_middle : {A : Type 0} (before : List A) (x : A) (after : List A) → slice_get (before ++ x ∷ after) (length before) ≡ Some x
at_middle [] x after = refl
at_middle (y ∷ before) x after = at_middle before x after

-- one of the first part
in_front : {A : Type 0} (before : List A) (x : A) (after : List A) (j : ℕ) (g : A) → j < length before → slice_get (before ++ x ∷ after) j ≡ Some g → slice_get before j ≡ Some g
in_front [] x after j g h e = absurd (omega (arith, h))
in_front (y ∷ before) x after zero g h e = e
in_front (y ∷ before) x after (suc j) g h e = in_front before x after j g (omega (arith, h)) e

pub plan_faults_refuse : PlanFaultsRefuse
plan_faults_refuse methods table top cert k n m s entry format sizes plans direction (NotEnabled index) at is is_sizes are h =
    subst (λ i. IsRefused methods table top cert (check.NotEnabled k n direction i)) h.index_is (step_refused format sizes plans direction h.before h.after h.step at is is_sizes are h.steps_are h.enabled_before h.refused)
plan_faults_refuse methods table top cert k n m s entry format sizes plans direction (NeverLearnt field side) at is is_sizes are h =
    let way = way_of cert.version direction table sizes format in
    let known = known_after way.rule way.start (steps_of direction plans) in
    let refused =
    side_unknown format sizes plans direction (length h.before) h.goal at is is_sizes are h.enabled (ap (λ goals. slice_get goals (length h.before)) h.goals_are ∙ at_middle h.before h.goal h.after) h.lacks
    (λ j g few at_g. goal_reached h.before known h.learnt_before j g (in_front h.before h.goal h.after j g few (ap (λ goals. slice_get goals j) (sym h.goals_are) ∙ at_g))) in
    let here = subst (λ i. IsRefused methods table top cert (check.NeverLearnt k n direction i h.goal.side)) h.field_is refused in
    subst (λ z. IsRefused methods table top cert (check.NeverLearnt k n direction field z)) h.side_is here
