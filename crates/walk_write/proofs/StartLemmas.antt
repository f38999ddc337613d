-- Where the number of a candidate begins.
use Rattle.std.proofs.Common.{◌≡◌, refl, sym, ◌∙◌, ap, subst, ℕ, zero, suc, ◌+◌, ◌<◌, ◌≤◌, List, [], ◌∷◌, length, take, Bor, arith}
use Rattle.std.specs.Prelude.{Option, Some, None, IfSome, IfNone, IsSome, slice_get, option_and_then}
use Rattle.std.specs.List.{sum}
use Rattle.std.specs.Option.{option_copied}
use Rattle.std.proofs.lemmas.List.Sums.{sum_by-cons}
use Rattle.sem_profile.specs.declared.profile.Format.{Format}
use Rattle.sem_profile.specs.declared.profile.Method.{Method}
use Rattle.sem_profile.specs.Passes.{indexed}
use Rattle.sem_profile.proofs.PassesPlaces.{indexed-at}
use Rattle.sem_profile.specs.Resolved.{Resolved, IsSound}
use Rattle.sem_filling.proofs.FillingsUnique.{also_at}
use Rattle.sem_filling.specs.Fits.{format_at}
use Rattle.sem_filling.proofs.FitsSized.{map_some}
use Rattle.cert_types.specs.declared.certificate.FormatPlans.{FormatPlans}
use Rattle.cert_types.specs.declared.certificate.MethodPlans.{MethodPlans}
use Rattle.cert_types.specs.declared.certificate.Plans.{Plans}
use Rattle.cert_rules.specs.Counts.{format_ways, entry_at}
use Rattle.cert_rules.specs.Valid.{plans_at}
use Rattle.cert_candidates.specs.declared.digits.Start.{Start}
use Rattle.cert_rules.specs.Spans.{spans_of, entry_spans, method_spans}
use Rattle.cert_candidates.specs.Starts.{IsStart}
use Rattle.cert_candidates.proofs.CodesFew.{kept_are_counts}
use Rattle.cert_candidates.proofs.CodesKept.{reading_starts, spans_are_kept, spans_add_up}
use Rattle.cert_accepted.specs.Accepted.{Accepting, IsAccepted}
use Rattle.cert_accepted.specs.declared.frame.AcceptedFrame.{AcceptedFrame}
use Rattle.cert_candidates.specs.Writing.{IsChecked}
use Rattle.walk_write.specs.Going.{Begins}
use Rattle.walk_write.specs.Walking.{IsBelow}

-- ---- sums

sum-cons : (x : ℕ) (xs : List ℕ) → sum (x ∷ xs) ≡ x + sum xs
sum-cons = sum_by-cons (λ (x : ℕ). x)

part_fits : (xs : List ℕ) (n x : ℕ) → slice_get xs n ≡ Some x → sum (take n xs) + x ≤ sum xs
part_fits [] n x e = absurd (cc)
part_fits (y ∷ ys) zero x e = let same : y ≡ x = cc in let all = sum-cons y ys in omega (arith, same, all)
part_fits (y ∷ ys) (suc n) x e = let rest = part_fits ys n x e in let all = sum-cons y ys in let first = sum-cons y (take n ys) in omega (arith, rest, all, first)

-- ---- a format with candidates has a plan

record HasPlan (formats : List Format) (entry : MethodPlans) (n : ℕ) : Type 0 where
  pub format : Format
  pub plans : Plans
  pub format_is : slice_get formats n ≡ Some format
  pub plans_are : plans_at entry n ≡ Some plans

planned : (counts : List ℕ) (formats : List Format) (entries : List FormatPlans) (n span : ℕ) → slice_get (spans_of counts formats entries) n ≡ Some span → 0 < span →
    (format : Format) × (slice_get formats n ≡ Some format) × (plans : Plans) × (option_and_then (λ (f : FormatPlans). f.plans) (slice_get entries n) ≡ Some plans)
planned counts [] entries n span e some = absurd (cc)
planned counts (f ∷ fs) [] n span e some = absurd (cc)
planned counts (f ∷ fs) (o ∷ os) zero span e some = let plans = by o.plans refl in (f, refl, plans.0, plans.1)
  where
    by : (x : Option Plans) → o.plans ≡ x → (plans : Plans) × (o.plans ≡ Some plans)
    by None is = let none : format_ways counts f o.plans ≡ 0 = ap (format_ways counts f) is in let same : format_ways counts f o.plans ≡ span = cc in absurd (omega (arith, none, same, some))
    by (Some plans) is = (plans, is)
planned counts (f ∷ fs) (o ∷ os) (suc n) span e some = planned counts fs os n span e some

entry_planned : (counts : List ℕ) (formats : List Format) (o : Option MethodPlans) (n span : ℕ) → slice_get (entry_spans counts formats o) n ≡ Some span → 0 < span →
    (format : Format) × (slice_get formats n ≡ Some format) × (plans : Plans) × (option_and_then (λ (x : MethodPlans). plans_at x n) o ≡ Some plans)
entry_planned counts formats None n span e some = absurd (cc)
entry_planned counts formats (Some entry) n span e some = planned counts formats entry.formats n span e some

indexed_length : {A B : Type 0} (f : ℕ → A → B) (n : ℕ) (xs : List A) → length (indexed f n xs) ≡ length xs
indexed_length f n [] = refl
indexed_length f n (x ∷ xs) = ap suc (indexed_length f (n + 1) xs)

-- ---- what is accepted

module _ (a : Accepting) (accepted : IsAccepted a) (sound : IsSound a.profile) where
  abbrev p : Resolved
  p = a.profile

  pub checked : IsChecked p.methods p.sizes p.top a.certificate.methods a.counts
  checked = record { are_sizes = sound.sized; version = a.certificate.version; valid = accepted.valid; are_counts = (kept_are_counts p a.certificate.version a.certificate.methods a.counts sound accepted.valid accepted.counted).0 }

  spans_are : a.spans ≡ method_spans a.counts p.methods a.certificate.methods
  spans_are = spans_are_kept p.methods a.certificate.methods a.counts checked.are_counts (kept_are_counts p a.certificate.version a.certificate.methods a.counts sound accepted.valid accepted.counted).1 a.spans accepted.spanned

  pub spans_within : (k : ℕ) → k < length p.methods → k < length a.spans
  spans_within k within = subst (λ n. k < n) (sym (ap length spans_are ∙ indexed_length (λ k m. entry_spans a.counts m.formats (entry_at a.certificate.methods k)) 0 p.methods)) within

  module _ (k : ℕ) (spans : List ℕ) (spans_at : slice_get a.spans k ≡ Some spans) where
    here : slice_get (method_spans a.counts p.methods a.certificate.methods) k ≡ Some spans
    here = ap (λ z. slice_get z k) (sym spans_are) ∙ spans_at

    line_at : (m : Method) × (slice_get p.methods k ≡ Some m) × (entry_spans a.counts m.formats (entry_at a.certificate.methods k) ≡ spans)
    line_at =
        let f = λ (k : ℕ) (m : Method). entry_spans a.counts m.formats (entry_at a.certificate.methods k) in
        let found = map_some (f (0 + k)) (slice_get p.methods k) spans (sym (indexed-at f 0 p.methods k) ∙ here) in
        let same : 0 + k ≡ k = omega arith in
        (found.0, found.1, ap (λ j. f j found.0) (sym same) ∙ found.2)

    count_at : (n : ℕ) × (slice_get a.counts k ≡ Some n)
    count_at = let m = line_at in also_at p.methods a.counts k m.0 (sym checked.are_counts.each) m.1

    -- a number that is below the count falls into a format
    pub falls : (c : ℕ) → ((n : ℕ) → slice_get a.counts k ≡ Some n → c < n) → sum spans ≤ c → ⊥
    falls c below past =
        let n = count_at in
        let total = spans_add_up p.methods a.certificate.methods a.counts checked.are_counts k n.0 n.1 spans here in
        let less = below n.0 n.1 in
        omega (arith, total, less, past)

pub begins : (place : AcceptedFrame) (accepted : IsAccepted place.accepted.now) (sound : IsSound place.accepted.now.profile) (spans : List ℕ) → slice_get place.accepted.now.spans place.frame.method ≡ Some spans →
    (c : ℕ) (start : Start) → IsStart spans c start → Begins place c start
begins place accepted sound spans spans_at c start is =
    let a = place.accepted.now in
    let methods = a.profile.methods in
    let base = checked a accepted sound in
    let is_here = here a accepted sound place.frame.method spans spans_at in
    let below = is.below in
    let m = line_at a accepted sound place.frame.method spans spans_at in
    let x = entry_planned a.counts m.0.formats (entry_at a.certificate.methods place.frame.method) start.format start.digits.span (ap (λ z. slice_get z start.format) m.2 ∙ is.span_at) (omega (arith, below)) in
    let at : format_at methods place.frame.method start.format ≡ Some x.0 = ap (option_and_then (λ (z : Method). slice_get z.formats start.format)) m.1 ∙ x.1 in
    let r = reading_starts methods a.certificate.methods a.counts base.are_counts place.frame.method spans is_here c start is x.0 x.2 at x.3 in
    let part = part_fits spans start.format start.digits.span is.span_at in
    let number_is = is.number_is in
    record {
      sound = sound;
      checked = base;
      format = x.0;
      plans = x.2;
      format_is = at;
      plans_are = x.3;
      reading = r.0;
      base_is = r.1;
      room = λ n counted. let total = spans_add_up methods a.certificate.methods a.counts base.are_counts place.frame.method n counted spans is_here in omega (arith, total, part, number_is);
    }

pub spans_there : (a : Accepting) → IsAccepted a → IsSound a.profile → (k : ℕ) → k < length a.profile.methods → (spans : List ℕ) × (slice_get a.spans k ≡ Some spans)
spans_there a accepted sound k within = by a.spans k (spans_within a accepted sound k within)
  where
    by : (xs : List (List ℕ)) (k : ℕ) → k < length xs → (x : List ℕ) × (slice_get xs k ≡ Some x)
    by [] k within = absurd (omega (arith, within))
    by (x ∷ xs) zero within = (x, refl)
    by (x ∷ xs) (suc k) within = by xs k (omega (arith, within))

pub started : (place : AcceptedFrame) (accepted : IsAccepted place.accepted.now) (sound : IsSound place.accepted.now.profile) (spans : List ℕ) → slice_get place.accepted.now.spans place.frame.method ≡ Some spans →
    (c : ℕ) → IsBelow place c → (o : Option Start) → IfNone o (sum spans ≤ c) → IsSome o
started place accepted sound spans spans_at c below None past = absurd (falls place.accepted.now accepted sound place.frame.method spans spans_at c below past)
started place accepted sound spans spans_at c below (Some start) past = refl

pub all_begin : (place : AcceptedFrame) (accepted : IsAccepted place.accepted.now) (sound : IsSound place.accepted.now.profile) (spans : List ℕ) → slice_get place.accepted.now.spans place.frame.method ≡ Some spans →
    (c : ℕ) → (o : Option Start) → IfSome o (IsStart spans c) → IfSome o (Begins place c)
all_begin place accepted sound spans spans_at c None is = tt
all_begin place accepted sound spans spans_at c (Some start) is = begins place accepted sound spans spans_at c start is

pub gone : {A : Type 0} (o : Option (Bor A)) → ((x : Bor A) → o ≡ Some x → ⊥) → (y : A) → option_copied o ≡ Some y → ⊥
gone None none y e = absurd (cc)
gone (Some x) none y e = none x refl
