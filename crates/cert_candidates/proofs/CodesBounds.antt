-- The number of a candidate is below the method's count.
use Rattle.std.proofs.Common.{◌≡◌, sym, ◌∙◌, ap, ℕ, ◌+◌, ◌<◌, List, arith}
use Rattle.std.specs.Prelude.{Option, Some, option_and_then, option_map, slice_get, unwrap_or}
use Rattle.sem_bits.specs.Number.{num}
use Rattle.sem_profile.specs.declared.profile.Format.{Format}
use Rattle.sem_profile.specs.declared.profile.Method.{Method}
use Rattle.sem_filling.specs.declared.filling.Filling.{Filling, out-Filling}
use Rattle.sem_filling.specs.Fillings.{fields_of, inner_at}
use Rattle.sem_filling.proofs.FillingsUnique.{also_at}
use Rattle.sem_filling.specs.Fits.{format_at}
use Rattle.cert_types.specs.declared.certificate.Step.{Step}
use Rattle.cert_types.specs.declared.certificate.Step.TheVariants.{Take, Call, LibraryUp, LibraryDown, MethodLength, ConstraintLength, Solve, Choose, Ask}
use Rattle.cert_types.specs.declared.certificate.Plans.{Plans}
use Rattle.cert_types.specs.Kept.{Entries}
use Rattle.cert_rules.specs.Counts.{ways, AreCounts}
use Rattle.cert_candidates.specs.Codes.{shown_bits, inner_for, step_digit, place, plan_number, write_plan, ways_before, number, numbers_in, called_at, IsCalled, IsCandidate, candidate}
use Rattle.cert_candidates.proofs.CodesLevels.{number_is, inner_shown}
use Rattle.cert_candidates.proofs.CodesSums.{stands, before_whole, place_below}

pub shown_is : {A : Type 0} (none : A) (o : Option ℕ) (p : Option (ℕ → A)) (k : ℕ) (make : ℕ → A) → o ≡ Some k → p ≡ Some make → inner_for none o p ≡ make k
shown_is none o p k make e e' = ap (λ z. inner_for none z p) e ∙ ap (λ z. inner_for none (Some k) z) e'

-- what is known of a candidate
pub record Parts (methods : List Method) (cert : Entries) (counts : List ℕ) (k : ℕ) (f : Filling) : Type 0 where
  pub format : Format
  pub plans : Plans
  pub format_is : format_at methods k (out-Filling f).format ≡ Some format
  pub plans_is : write_plan cert k (out-Filling f).format ≡ Some plans
  pub chosen : (j i : ℕ) → slice_get plans.write j ≡ Some (Choose i) → num (shown_bits (slice_get (numbers_in methods cert counts f) i)) < ways counts format (Choose i)
  pub calls : (j i : ℕ) → slice_get plans.write j ≡ Some (Call i) → IsCalled format f i
  pub inner : (j i c : ℕ) (inner : Filling) → slice_get plans.write j ≡ Some (Call i) → called_at format i ≡ Some c → inner_at f i ≡ Some inner → IsCandidate methods cert counts c inner

pub parts : {methods : List Method} {cert : Entries} {counts : List ℕ} {k : ℕ} {f : Filling} → IsCandidate methods cert counts k f → Parts methods cert counts k f
parts (candidate format plans format_is plans_is chosen calls inner) = record { format = format; plans = plans; format_is = format_is; plans_is = plans_is; chosen = chosen; calls = calls; inner = inner }

pub ways_are : (counts : List ℕ) (format : Format) (i c n : ℕ) → called_at format i ≡ Some c → slice_get counts c ≡ Some n → ways counts format (Call i) ≡ n
ways_are counts format i c n e e' = ap (λ z. unwrap_or (option_and_then (slice_get counts) z) 1) e ∙ ap (λ z. unwrap_or z 1) e'

-- the number of a filling, where its format and its plans are known
pub number_by : (methods : List Method) (cert : Entries) (counts : List ℕ) (k : ℕ) (f : Filling) (format : Format) (plans : Plans) →
    format_at methods k (out-Filling f).format ≡ Some format → write_plan cert k (out-Filling f).format ≡ Some plans →
    number methods cert counts f k ≡ ways_before methods cert counts k (out-Filling f).format + place counts format (numbers_in methods cert counts f) plans.write
number_by methods cert counts k f format plans e e' =
    number_is methods cert counts k f
    ∙ ap (λ z. ways_before methods cert counts k (out-Filling f).format + plan_number counts (numbers_in methods cert counts f) z (write_plan cert k (out-Filling f).format)) e
    ∙ ap (λ z. ways_before methods cert counts k (out-Filling f).format + plan_number counts (numbers_in methods cert counts f) (Some format) z) e'

module _ (methods : List Method) (cert : Entries) (counts : List ℕ) (are : AreCounts methods cert counts) where
  pub count_of : (k : ℕ) (f : Filling) → IsCandidate methods cert counts k f → (n : ℕ) × (slice_get counts k ≡ Some n)
  count_of k f h =
      let p = parts h in
      let s = stands methods cert k (out-Filling f).format p.format p.plans p.format_is p.plans_is in
      also_at methods counts k s.method (sym are.each) s.method_is

  -- the digit of a call is the number of the inner filling
  pub digit_is : (format : Format) (f : Filling) (i c : ℕ) (inner : Filling) → called_at format i ≡ Some c → inner_at f i ≡ Some inner →
      step_digit format (numbers_in methods cert counts f) (Call i) ≡ number methods cert counts inner c
  digit_is format f i c inner e e' =
      shown_is 0 (called_at format i) (option_and_then (λ g. g.inner) (slice_get (numbers_in methods cert counts f) i)) c (number methods cert counts inner) e
      (inner_shown (number methods cert counts) (fields_of f) i ∙ ap (option_map (number methods cert counts)) e')

  digit_below : (format : Format) (plan : List Step) (f : Filling) →
      ((j i : ℕ) → slice_get plan j ≡ Some (Choose i) → num (shown_bits (slice_get (numbers_in methods cert counts f) i)) < ways counts format (Choose i)) →
      ((j i : ℕ) → slice_get plan j ≡ Some (Call i) → (c : ℕ) × (n : ℕ) × (inner : Filling) × (called_at format i ≡ Some c) × (inner_at f i ≡ Some inner) × (slice_get counts c ≡ Some n) × (number methods cert counts inner c < n)) →
      (j : ℕ) (s : Step) → slice_get plan j ≡ Some s → step_digit format (numbers_in methods cert counts f) s < ways counts format s
  digit_below format plan f chosen calls j (Choose i) e = chosen j i e
  digit_below format plan f chosen calls j (Call i) e =
      let h = calls j i e in
      let d = digit_is format f i h.0 h.2 h.3 h.4 in
      let w = ways_are counts format i h.0 h.1 h.3 h.5 in
      let l = h.6 in
      omega (arith, d, w, l)
  digit_below format plan f chosen calls j (Take i) e = omega arith
  digit_below format plan f chosen calls j (LibraryUp i) e = omega arith
  digit_below format plan f chosen calls j (LibraryDown i) e = omega arith
  digit_below format plan f chosen calls j (MethodLength i side) e = omega arith
  digit_below format plan f chosen calls j (ConstraintLength i side n) e = omega arith
  digit_below format plan f chosen calls j (Solve i n) e = omega arith
  digit_below format plan f chosen calls j (Ask i) e = omega arith

  pub below : {k : ℕ} {f : Filling} → IsCandidate methods cert counts k f → (n : ℕ) → slice_get counts k ≡ Some n → number methods cert counts f k < n
  below {k} {f} (candidate format plans format_is plans_is chosen calls inner) n at =
      let p = place_below counts format (numbers_in methods cert counts f) plans.write (digit_below format plans.write f chosen (λ j i e.
      let c = calls j i e in
      let count = count_of c.method c.inner (inner j i c.method c.inner e c.calls c.filled) in
      (c.method, count.0, c.inner, c.calls, c.filled, count.1, below (inner j i c.method c.inner e c.calls c.filled) count.0 count.1))) in
      let w = before_whole methods cert counts are k (out-Filling f).format format plans format_is plans_is n at in
      let e = number_by methods cert counts k f format plans format_is plans_is in
      omega (arith, p, w, e)

  -- each digit is below the step's ways
  pub digits : (k : ℕ) (f : Filling) (p : Parts methods cert counts k f) (j : ℕ) (s : Step) → slice_get p.plans.write j ≡ Some s →
      step_digit p.format (numbers_in methods cert counts f) s < ways counts p.format s
  digits k f p =
      digit_below p.format p.plans.write f p.chosen (λ j i e.
      let c = p.calls j i e in
      let h = p.inner j i c.method c.inner e c.calls c.filled in
      let count = count_of c.method c.inner h in
      (c.method, count.0, c.inner, c.calls, c.filled, count.1, below h count.0 count.1))
