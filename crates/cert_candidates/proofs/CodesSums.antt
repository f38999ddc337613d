-- The counts of formats before one, and the digits of a plan.
use Rattle.std.proofs.Common.{◌≡◌, refl, ◌∙◌, ap, ℕ, zero, suc, ◌+◌, ◌<◌, ◌≤◌, List, [], ◌∷◌, arith}
use Rattle.std.specs.Prelude.{Some, slice_get, take}
use Rattle.sem_profile.specs.declared.profile.Format.{Format}
use Rattle.sem_profile.specs.declared.profile.Method.{Method}
use Rattle.sem_filling.specs.Fits.{format_at}
use Rattle.cert_types.specs.declared.certificate.Step.{Step}
use Rattle.cert_types.specs.declared.certificate.Plans.{Plans}
use Rattle.cert_types.specs.declared.certificate.FormatPlans.{FormatPlans}
use Rattle.cert_types.specs.declared.certificate.MethodPlans.{MethodPlans}
use Rattle.cert_types.specs.Kept.{Entries}
use Rattle.cert_rules.specs.Counts.{ways, plan_ways, format_ways, method_ways, entry_ways, entry_at, AreCounts}
use Rattle.cert_rules.specs.Valid.{plans_at}
use Rattle.sem_filling.proofs.FitsSized.{and_then_some}
use Rattle.cert_candidates.specs.Codes.{Shown, step_digit, place, write_plan, ways_in, ways_before}
use Rattle.cert_candidates.proofs.BestOrder.{mixed}

ways_here : (counts : List ℕ) (f : Format) (o : FormatPlans) (format : Format) (entry : FormatPlans) (plans : Plans) → Some f ≡ Some format → Some o ≡ Some entry → entry.plans ≡ Some plans →
    format_ways counts f o.plans ≡ plan_ways counts format plans.write
ways_here counts f o format entry plans e e' is =
    let same : f ≡ format = cc in
    let same_entry : o ≡ entry = cc in
    ap (λ z. format_ways counts z o.plans) same ∙ (ap (λ (z : FormatPlans). format_ways counts format z.plans) same_entry ∙ ap (format_ways counts format) is)

next_sum : (counts : List ℕ) (formats : List Format) (entries : List FormatPlans) (n : ℕ) (format : Format) (entry : FormatPlans) (plans : Plans) →
    slice_get formats n ≡ Some format → slice_get entries n ≡ Some entry → entry.plans ≡ Some plans → (m : ℕ) → n < m →
    method_ways counts (take n formats) (take n entries) + plan_ways counts format plans.write ≤ method_ways counts (take m formats) (take m entries)
next_sum counts [] entries n format entry plans e e' is m l = absurd (cc)
next_sum counts (f ∷ fs) [] n format entry plans e e' is m l = absurd (cc)
next_sum counts (f ∷ fs) (o ∷ os) n format entry plans e e' is zero l = absurd (omega (arith, l))
next_sum counts (f ∷ fs) (o ∷ os) zero format entry plans e e' is (suc m) l = let here = ways_here counts f o format entry plans e e' is in omega (arith, here)
next_sum counts (f ∷ fs) (o ∷ os) (suc n) format entry plans e e' is (suc m) l =
    let h = next_sum counts fs os n format entry plans e e' is m (omega (arith, l)) in omega (arith, h)

whole_sum : (counts : List ℕ) (formats : List Format) (entries : List FormatPlans) (n : ℕ) (format : Format) (entry : FormatPlans) (plans : Plans) →
    slice_get formats n ≡ Some format → slice_get entries n ≡ Some entry → entry.plans ≡ Some plans →
    method_ways counts (take n formats) (take n entries) + plan_ways counts format plans.write ≤ method_ways counts formats entries
whole_sum counts [] entries n format entry plans e e' is = absurd (cc)
whole_sum counts (f ∷ fs) [] n format entry plans e e' is = absurd (cc)
whole_sum counts (f ∷ fs) (o ∷ os) zero format entry plans e e' is = let here = ways_here counts f o format entry plans e e' is in omega (arith, here)
whole_sum counts (f ∷ fs) (o ∷ os) (suc n) format entry plans e e' is =
    let h = whole_sum counts fs os n format entry plans e e' is in omega (arith, h)

-- where a format and its plans stand
pub record Stands (methods : List Method) (cert : Entries) (k n : ℕ) (format : Format) (plans : Plans) : Type 0 where
  pub method : Method
  pub method_is : slice_get methods k ≡ Some method
  pub format_is : slice_get method.formats n ≡ Some format
  pub entry : MethodPlans
  pub entry_is : entry_at cert k ≡ Some entry
  pub format_entry : FormatPlans
  pub format_entry_is : slice_get entry.formats n ≡ Some format_entry
  pub plans_is : format_entry.plans ≡ Some plans

pub stands : (methods : List Method) (cert : Entries) (k n : ℕ) (format : Format) (plans : Plans) → format_at methods k n ≡ Some format → write_plan cert k n ≡ Some plans → Stands methods cert k n format plans
stands methods cert k n format plans e e' =
    let m = and_then_some (λ (m : Method). slice_get m.formats n) (slice_get methods k) format e in
    let entry = and_then_some (λ (entry : MethodPlans). plans_at entry n) (entry_at cert k) plans e' in
    let o = and_then_some (λ (f : FormatPlans). f.plans) (slice_get entry.0.formats n) plans entry.2 in
    record { method = m.0; method_is = m.1; format_is = m.2; entry = entry.0; entry_is = entry.1; format_entry = o.0; format_entry_is = o.1; plans_is = o.2 }

module _ (methods : List Method) (cert : Entries) (counts : List ℕ) where
  pub before_is : (k n m : ℕ) (format : Format) (plans : Plans) → (s : Stands methods cert k n format plans) → ways_before methods cert counts k m ≡ method_ways counts (take m s.method.formats) (take m s.entry.formats)
  before_is k n m format plans s = ap (λ z. ways_in counts m z (entry_at cert k)) s.method_is ∙ ap (λ z. ways_in counts m (Some s.method) z) s.entry_is

  pub before_next : (k n : ℕ) (format : Format) (plans : Plans) → format_at methods k n ≡ Some format → write_plan cert k n ≡ Some plans → (m : ℕ) → n < m →
      ways_before methods cert counts k n + plan_ways counts format plans.write ≤ ways_before methods cert counts k m
  before_next k n format plans e e' m l =
      let s = stands methods cert k n format plans e e' in
      let h = next_sum counts s.method.formats s.entry.formats n format s.format_entry plans s.format_is s.format_entry_is s.plans_is m l in
      let a = before_is k n n format plans s in
      let b = before_is k n m format plans s in
      omega (arith, h, a, b)

  pub before_whole : AreCounts methods cert counts → (k n : ℕ) (format : Format) (plans : Plans) → format_at methods k n ≡ Some format → write_plan cert k n ≡ Some plans → (count : ℕ) → slice_get counts k ≡ Some count →
      ways_before methods cert counts k n + plan_ways counts format plans.write ≤ count
  before_whole are k n format plans e e' count at =
      let s = stands methods cert k n format plans e e' in
      let h = whole_sum counts s.method.formats s.entry.formats n format s.format_entry plans s.format_is s.format_entry_is s.plans_is in
      let a = before_is k n n format plans s in
      let b : count ≡ method_ways counts s.method.formats s.entry.formats = are.right k count s.method s.method_is at ∙ ap (entry_ways counts s.method.formats) s.entry_is in
      omega (arith, h, a, b)

pub place_below : (counts : List ℕ) (format : Format) (gs : List (Shown ℕ)) (steps : List Step) → ((j : ℕ) (s : Step) → slice_get steps j ≡ Some s → step_digit format gs s < ways counts format s) →
    place counts format gs steps < plan_ways counts format steps
place_below counts format gs [] h = omega arith
place_below counts format gs (s ∷ steps) h =
    mixed (step_digit format gs s) (ways counts format s) (place counts format gs steps) (plan_ways counts format steps) (h 0 s refl) (place_below counts format gs steps (λ j. h (suc j)))
