-- The numbers of candidates that are kept up to the cap, and where numbers begin to be read.
use Rattle.std.proofs.Common.{◌≡◌, refl, sym, ◌∙◌, ap, ℕ, zero, suc, ◌+◌, ◌*◌, ◌^◌, ◌<◌, ◌≤◌, List, [], ◌∷◌, map, take, arith}
use Rattle.std.specs.Prelude.{Option, Some, None, slice_get, unwrap_or, option_map}
use Rattle.std.specs.List.{sum}
use Rattle.std.proofs.lemmas.List.Sums.{sum_by-cons}
use Rattle.sem_profile.specs.declared.profile.Format.{Format}
use Rattle.sem_profile.specs.declared.profile.Method.{Method}
use Rattle.sem_profile.proofs.PassesPlaces.{indexed-at}
use Rattle.sem_filling.proofs.FillingsUnique.{also_at}
use Rattle.sem_filling.specs.Fits.{format_at}
use Rattle.sem_filling.proofs.FitsSized.{map_some}
use Rattle.cert_types.specs.declared.certificate.Plans.{Plans}
use Rattle.cert_types.specs.declared.certificate.FormatPlans.{FormatPlans}
use Rattle.cert_types.specs.declared.certificate.MethodPlans.{MethodPlans}
use Rattle.cert_types.specs.Kept.{Entries, candidate_limit}
use Rattle.cert_rules.specs.Counts.{ways, plan_ways, format_ways, method_ways, entry_ways, entry_at, AreCounts}
use Rattle.cert_rules.specs.Capped.{capped}
use Rattle.cert_candidates.specs.Codes.{write_plan, ways_before}
use Rattle.cert_candidates.specs.Digits.{InSpan}
use Rattle.cert_rules.specs.Spans.{spans_of, entry_spans, method_spans}
use Rattle.cert_candidates.specs.Laws.{SpansAreKept, SpansAddUp, ReadingStarts, ReadingPasses, ReadingParts, WaysOfChoice, WaysOfCall, ReadingReaches, ReadingEnds}
use Rattle.cert_candidates.proofs.CodesBounds.{ways_are}
use Rattle.cert_candidates.proofs.Reading as reading
use Rattle.cert_candidates.proofs.CodesSums.{Stands, stands, before_is}

-- ---- sums

sum-cons : (x : ℕ) (xs : List ℕ) → sum (x ∷ xs) ≡ x + sum xs
sum-cons = sum_by-cons (λ (x : ℕ). x)

-- the spans of the first formats are those of the first ones
sum_before : (counts : List ℕ) (n : ℕ) (formats : List Format) (entries : List FormatPlans) → sum (take n (spans_of counts formats entries)) ≡ method_ways counts (take n formats) (take n entries)
sum_before counts zero formats entries = refl
sum_before counts (suc n) [] entries = refl
sum_before counts (suc n) (f ∷ fs) [] = refl
sum_before counts (suc n) (f ∷ fs) (o ∷ os) =
    sum-cons (format_ways counts f o.plans) (take n (spans_of counts fs os)) ∙ ap (λ z. format_ways counts f o.plans + z) (sum_before counts n fs os)

sum_whole : (counts : List ℕ) (formats : List Format) (entries : List FormatPlans) → sum (spans_of counts formats entries) ≡ method_ways counts formats entries
sum_whole counts [] entries = refl
sum_whole counts (f ∷ fs) [] = refl
sum_whole counts (f ∷ fs) (o ∷ os) = sum-cons (format_ways counts f o.plans) (spans_of counts fs os) ∙ ap (λ z. format_ways counts f o.plans + z) (sum_whole counts fs os)

sum_entry : (counts : List ℕ) (formats : List Format) (o : Option MethodPlans) → sum (entry_spans counts formats o) ≡ entry_ways counts formats o
sum_entry counts formats None = refl
sum_entry counts formats (Some entry) = sum_whole counts formats entry.formats

-- what stands for a format is the ways of its write plan
span_here : (counts : List ℕ) (formats : List Format) (entries : List FormatPlans) (n : ℕ) (format : Format) (entry : FormatPlans) (plans : Plans) →
    slice_get formats n ≡ Some format → slice_get entries n ≡ Some entry → entry.plans ≡ Some plans → slice_get (spans_of counts formats entries) n ≡ Some (plan_ways counts format plans.write)
span_here counts [] entries n format entry plans e e' is = absurd (cc)
span_here counts (f ∷ fs) [] n format entry plans e e' is = absurd (cc)
span_here counts (f ∷ fs) (o ∷ os) zero format entry plans e e' is =
    let same : f ≡ format = cc in
    let same_entry : o ≡ entry = cc in
    ap Some (ap (λ z. format_ways counts z o.plans) same ∙ (ap (λ (z : FormatPlans). format_ways counts format z.plans) same_entry ∙ ap (format_ways counts format) is))
span_here counts (f ∷ fs) (o ∷ os) (suc n) format entry plans e e' is = span_here counts fs os n format entry plans e e' is

-- numbers whose sum is below the cap are kept as they are
exact : (xs : List ℕ) → sum xs ≤ candidate_limit → map capped xs ≡ xs
exact [] l = refl
exact (x ∷ xs) l =
    let e = sum-cons x xs in
    let here : capped x ≡ x = omega (arith, e, l) in
    let rest = exact xs (omega (arith, e, l)) in
    λ i. here i ∷ rest i

-- ---- the table of a profile

module _ (methods : List Method) (cert : Entries) (counts : List ℕ) where
  -- a line of the table is that of its method
  line_at : (k : ℕ) (line : List ℕ) → slice_get (method_spans counts methods cert) k ≡ Some line → (m : Method) × (slice_get methods k ≡ Some m) × (line ≡ entry_spans counts m.formats (entry_at cert k))
  line_at k line at =
      let f = λ (k : ℕ) (m : Method). entry_spans counts m.formats (entry_at cert k) in
      let found = map_some (f (0 + k)) (slice_get methods k) line (sym (indexed-at f 0 methods k) ∙ at) in
      let here : 0 + k ≡ k = omega arith in
      (found.0, found.1, sym found.2 ∙ ap (λ j. f j found.0) here)

  -- that of a method whose format has plans
  line_here : (k n : ℕ) (format : Format) (plans : Plans) (s : Stands methods cert k n format plans) (line : List ℕ) → slice_get (method_spans counts methods cert) k ≡ Some line → line ≡ spans_of counts s.method.formats s.entry.formats
  line_here k n format plans s line at =
      let found = line_at k line at in
      let same_method : found.0 ≡ s.method = let a = found.1 in let b = s.method_is in cc in
      found.2 ∙ (ap (λ (z : Method). entry_spans counts z.formats (entry_at cert k)) same_method ∙ ap (entry_spans counts s.method.formats) s.entry_is)

  -- the numbers of the formats before one
  pub sum_ahead : (k n : ℕ) (format : Format) (plans : Plans) (line : List ℕ) → slice_get (method_spans counts methods cert) k ≡ Some line → format_at methods k n ≡ Some format → write_plan cert k n ≡ Some plans →
      sum (take n line) ≡ ways_before methods cert counts k n
  sum_ahead k n format plans line at format_is plans_is =
      let s = stands methods cert k n format plans format_is plans_is in
      ap (λ z. sum (take n z)) (line_here k n format plans s line at) ∙ (sum_before counts n s.method.formats s.entry.formats ∙ sym (before_is methods cert counts k n n format plans s))

  line_sum : AreCounts methods cert counts → (k n : ℕ) → slice_get counts k ≡ Some n → (line : List ℕ) → slice_get (method_spans counts methods cert) k ≡ Some line → sum line ≡ n
  line_sum are k n at line line_is =
      let found = line_at k line line_is in
      ap sum found.2 ∙ (sum_entry counts found.0.formats (entry_at cert k) ∙ sym (are.right k n found.0 found.1 at))

-- a map that changes no element
unchanged : {X : Type 0} (f : X → X) (xs : List X) → ((k : ℕ) (x : X) → slice_get xs k ≡ Some x → f x ≡ x) → map f xs ≡ xs
unchanged f [] same = refl
unchanged f (x ∷ xs) same = λ i. same 0 x refl i ∷ unchanged f xs (λ k. same (suc k)) i

pub spans_add_up : SpansAddUp
spans_add_up methods cert counts are k n at spans is = line_sum methods cert counts are k n at spans is

pub spans_are_kept : SpansAreKept
spans_are_kept methods cert counts are few table made =
    made counts (sym (unchanged capped counts (λ k n at. let l = few k n at in omega (arith, l))))
    ∙ unchanged (map capped) (method_spans counts methods cert) (λ k line at.
    let m = line_at methods cert counts k line at in
    let n = also_at methods counts k m.0 (sym are.each) m.1 in
    let total = line_sum methods cert counts are k n.0 n.1 line at in
    let l = few k n.0 n.1 in
    exact line (omega (arith, total, l)))

-- ---- readings

pub reading_starts : ReadingStarts
reading_starts methods cert counts are k spans spans_is c start start_is format plans format_is plans_is =
    let s = stands methods cert k start.format format plans format_is plans_is in
    let line_is = line_here methods cert counts k start.format format plans s spans spans_is in
    let here = span_here counts s.method.formats s.entry.formats start.format format s.format_entry plans s.format_is s.format_entry_is s.plans_is in
    let both : Some start.digits.span ≡ Some (plan_ways counts format plans.write) = sym start_is.span_at ∙ (ap (λ z. slice_get z start.format) line_is ∙ here) in
    let span_is : start.digits.span ≡ plan_ways counts format plans.write = cc in
    let first = sum_ahead methods cert counts k start.format format plans spans spans_is format_is plans_is in
    let number_is = start_is.number_is in (
      record {
        base = ways_before methods cert counts k start.format;
        all = λ f tried i. reading.start methods cert counts are k start.format format plans f tried format_is plans_is i.from i.to;
        span_is = span_is;
        below = start_is.below;
        number_is = omega (arith, number_is, first);
      },
      refl,
    )

pub reading_passes : ReadingPasses
reading_passes methods cert counts are k n format step steps c place alone before =
    let w = plan_ways counts format steps in
    let less : 0 < ways counts format step = omega (arith, alone) in
    let on = reading.known methods cert counts are k n format before.base step steps before.all 0 less in
    let product : ways counts format step * w ≡ 1 * w = ap (λ z. z * w) alone in
    let span_is = before.span_is in
    let number_is = before.number_is in
    record {
      after = record {
        base = before.base + 0 * w;
        all = on.0;
        span_is = omega (arith, span_is, product);
        below = before.below;
        number_is = omega (arith, number_is);
      };
      base_is = refl;
      inside = reading.wider methods cert counts are k format before.base step steps 0 less;
      theirs = on.1;
    }

pub reading_parts : ReadingParts
reading_parts methods cert counts k n format step steps c place before radix is = (plan_ways counts format steps, ap (λ z. z * plan_ways counts format steps) is ∙ sym before.span_is)

pub ways_of_choice : WaysOfChoice
ways_of_choice counts format i bits is = ap (λ o. unwrap_or (option_map (λ n. 2 ^ n) o) 1) is

pub ways_of_call : WaysOfCall
ways_of_call = ways_are

pub reading_reaches : ReadingReaches
reading_reaches methods cert counts k n format steps c place r f tried number_is =
    let c_is = r.number_is in
    let span_is = r.span_is in
    let below = r.below in
    let i : InSpan methods cert counts k format r.base steps f = record { from = omega (arith, number_is, c_is); to = omega (arith, number_is, c_is, span_is, below) } in
    record { within = i; read = r.all f tried i }

pub reading_ends : ReadingEnds
reading_ends methods cert counts k n format c place r f h =
    let number_is = reading.end methods cert counts k n format r.base f h in
    let c_is = r.number_is in
    let span_is = r.span_is in
    let below = r.below in
    omega (arith, number_is, c_is, span_is, below)
