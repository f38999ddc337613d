-- The number of what a page shows, made digit by digit.
use Rattle.std.proofs.Common.{◌≡◌, ◌∙◌, refl, sym, ap, subst, ℕ, zero, suc, ◌+◌, ◌*◌, ◌≤◌, List, [], ◌∷◌, Bool, length, map, drop, arith}
use Rattle.std.specs.Prelude.{Option, Some, None, IfSome, slice_get, option_and_then, option_map, unwrap_or}
use Rattle.std.specs.Option.{SomeIff}
use Rattle.sem_bits.specs.Number.{num}
use Rattle.sem_profile.specs.declared.profile.Field.{Field}
use Rattle.sem_profile.specs.declared.profile.Format.{Format}
use Rattle.sem_profile.specs.declared.profile.Method.{Method}
use Rattle.sem_profile.specs.declared.profile.Encoding as normal
use Rattle.sem_profile.specs.declared.profile.Encoding.TheVariants as encoding
use Rattle.sem_filling.specs.declared.filling.Filling.{Filling, out-Filling}
use Rattle.sem_filling.specs.declared.filling.FilledField.{FilledField}
use Rattle.sem_filling.specs.Fillings.{sides_of, inner_of, fields_of}
use Rattle.sem_filling.specs.Fits.{format_at}
use Rattle.cert_types.specs.declared.certificate.Step.{Step}
use Rattle.cert_types.specs.declared.certificate.Step.TheVariants.{Call, Choose}
use Rattle.cert_types.specs.declared.certificate.Plans.{Plans}
use Rattle.cert_rules.specs.Counts.{callee, ways, plan_ways}
use Rattle.cert_candidates.specs.Codes.{called_at, inner_for, number, place, show, shown_bits, step_digit, write_plan}
use Rattle.cert_candidates.specs.declared.numbers.Candidates.{Candidates}
use Rattle.cert_candidates.specs.Numbered.{HasSpans, IsBefore, IsInside, IsNumbered, numbers_inside}
use Rattle.cert_candidates.proofs.CodesLevels.{inner_shown}
use Rattle.cert_candidates.proofs.NumbersCounted.{whole_number}
use Rattle.sem_pages.specs.declared.page.Page.{Page, out-Page}
use Rattle.sem_pages.specs.declared.page.Shown.{Shown, out-Shown}
use Rattle.sem_pages.specs.Pages.{Shows, StandsFor, shows}
use Rattle.sem_pages.proofs.Leaving.{field_shown, inside_call}
use Rattle.sem_pages.proofs.Levels.{level_at}

-- the filling is of the page's format
format_shown : (methods : List Method) {k : ℕ} {p : Page} {f : Filling} → Shows methods k p f → (out-Filling f).format ≡ (out-Page p).format
format_shown methods (shows format there format_is listing_is level_is each) = format_is

bits_at_place : {A : Type 0} (make : Filling → ℕ → A) (gs : List FilledField) (i : ℕ) (g : FilledField) → slice_get gs i ≡ Some g → shown_bits (slice_get (map (show make) gs) i) ≡ (sides_of g).uncompressed
bits_at_place make [] i g at = let wrong : None ≡ Some g = at in absurd cc
bits_at_place make (h ∷ gs) zero g at = let one : Some h ≡ Some g = at in let same : h ≡ g = cc in ap (λ x. (sides_of x).uncompressed) same
bits_at_place make (h ∷ gs) (suc i) g at = bits_at_place make gs i g at

-- the digit of a choice: the number of the bits that stand on the page
pub choice_digit : (t : Candidates) {k : ℕ} {p : Page} (format : Format) (i : ℕ) (s : Shown) (word : List Bool) → format_at t.methods.now k (out-Page p).format ≡ Some format → length (out-Page p).fields ≡ length format.fields
    → slice_get (out-Page p).fields i ≡ Some s → (out-Shown s).uncompressed ≡ Some word → (f : Filling) → Shows t.methods.now k p f → step_digit format (numbers_inside t f) (Choose i) ≡ num word
choice_digit t format i s word at count there is f shown =
    let d = level_at format.fields _ i s count there in
    let g = field_shown t.methods.now format i d.0 s at count d.1 there shown in
    ap num (bits_at_place (number t.methods.now t.entries.now t.counts.now) (fields_of f) i g.0 g.1)
    ∙ ap (λ x. num x.uncompressed) g.2.sides_are
    ∙ ap (λ (o : Option (List Bool)). num (unwrap_or o [])) is

-- the number inside a field that calls a method
pub inside_number : (t : Candidates) (s : Shown) (q : Page) (k n : ℕ) → (out-Shown s).inner ≡ Some q → ((f : Filling) → Shows t.methods.now k q f → number t.methods.now t.entries.now t.counts.now f k ≡ n)
    → (d : Field) (g : FilledField) → callee d.encoding ≡ Some k → StandsFor t.methods.now d s g → IsInside t g k n
inside_number t s q k n is numbered d g calls stands = by d.encoding refl
  where
    by : (e : normal.Encoding) → d.encoding ≡ e → IsInside t g k n
    by encoding.Bare e = let wrong : None ≡ Some k = ap callee (sym e) ∙ calls in absurd cc
    by (encoding.Library l) e = let wrong : None ≡ Some k = ap callee (sym e) ∙ calls in absurd cc
    by (encoding.Call j es) e =
        let one : Some j ≡ Some k = ap callee (sym e) ∙ calls in
        let same : j ≡ k = cc in
        let inner = inside_call t.methods.now k es q is (e ∙ ap (λ m. encoding.Call m es) same) stands.inside in
        (inner.0, inner.1, numbered inner.0 inner.2)

-- the digit of a call: the number of the page inside
pub call_digit : (t : Candidates) {k : ℕ} {p : Page} (format : Format) (i j n : ℕ) (s : Shown) → format_at t.methods.now k (out-Page p).format ≡ Some format → length (out-Page p).fields ≡ length format.fields
    → slice_get (out-Page p).fields i ≡ Some s → called_at format i ≡ Some j → ((d : Field) (g : FilledField) → callee d.encoding ≡ Some j → StandsFor t.methods.now d s g → IsInside t g j n)
    → (f : Filling) → Shows t.methods.now k p f → step_digit format (numbers_inside t f) (Call i) ≡ n
call_digit t format i j n s at count there calls inside f shown =
    let make = number t.methods.now t.entries.now t.counts.now in
    let d = level_at format.fields _ i s count there in
    let own : callee (d.0).encoding ≡ Some j = sym (ap (option_and_then (λ (x : Field). callee x.encoding)) d.1) ∙ calls in
    let g = field_shown t.methods.now format i d.0 s at count d.1 there shown in
    let q = inside d.0 g.0 own g.2 in
    ap (λ o. inner_for 0 o (option_and_then (λ x. x.inner) (slice_get (numbers_inside t f) i))) calls
    ∙ ap (inner_for 0 (Some j)) (inner_shown make (fields_of f) i ∙ ap (λ o. option_map make (option_and_then inner_of o)) g.1 ∙ ap (option_map make) q.1)
    ∙ q.2

-- what a call multiplies by
pub call_ways : (counts : List ℕ) (format : Format) (i j w : ℕ) → called_at format i ≡ Some j → slice_get counts j ≡ Some w → ways counts format (Call i) ≡ w
call_ways counts format i j w calls at = rw (calls, at) refl

-- a number with one more digit
pub step_numbered : (t : Candidates) {k : ℕ} {p : Page} (format : Format) (step : Step) (old scaled digit : ℕ) (P : Type 0) (result : Option ℕ) → scaled ≡ old * ways t.counts.now format step
    → ((f : Filling) → Shows t.methods.now k p f → step_digit format (numbers_inside t f) step ≡ digit) → SomeIff result P (scaled + digit)
    → IfSome result (λ n. (f : Filling) → Shows t.methods.now k p f → IsNumbered t.counts.now format (numbers_inside t f) step old n)
step_numbered t format step old scaled digit P None scaled_is digit_is sum_is = tt
step_numbered t format step old scaled digit P (Some n) scaled_is digit_is sum_is = λ f shown.
    ap (λ z. old * ways t.counts.now format step + z) (digit_is f shown) ∙ ap (λ z. z + digit) (sym scaled_is) ∙ sym sum_is.1

drop_end : {A : Type 0} (xs : List A) (n : ℕ) → length xs ≤ n → drop n xs ≡ []
drop_end [] zero le = refl
drop_end [] (suc n) le = refl
drop_end (x ∷ xs) zero le = absurd (omega (arith, le))
drop_end (x ∷ xs) (suc n) le = drop_end xs n (omega (arith, le))

-- after the last step
pub last_digit : (t : Candidates) (format : Format) (f : Filling) (steps : List Step) (n so_far whole : ℕ) → length steps ≤ n
    → so_far * plan_ways t.counts.now format (drop n steps) + place t.counts.now format (numbers_inside t f) (drop n steps) ≡ whole → whole ≡ so_far
last_digit t format f steps n so_far whole le is =
    let none = drop_end steps n le in
    let left : so_far * 1 + 0 ≡ whole = sym (ap (λ xs. so_far * plan_ways t.counts.now format xs + place t.counts.now format (numbers_inside t f) xs) none) ∙ is in
    omega (arith, left)

-- the numbers of the formats before its own, and its digits
pub whole_shown : (t : Candidates) → HasSpans t → (k : ℕ) (p : Page) (format : Format) (plans : Plans) (steps : List Step) (first digits : ℕ) (P : Type 0) (result : Option ℕ)
    → format_at t.methods.now k (out-Page p).format ≡ Some format → write_plan t.entries.now k (out-Page p).format ≡ Some plans → IsBefore t.spans.now k (out-Page p).format first → steps ≡ plans.write
    → ((f : Filling) → Shows t.methods.now k p f → place t.counts.now format (numbers_inside t f) steps ≡ digits) → SomeIff result P (first + digits)
    → IfSome result (λ n. (f : Filling) → Shows t.methods.now k p f → number t.methods.now t.entries.now t.counts.now f k ≡ n)
whole_shown t spans k p format plans steps first digits P None format_is plans_is before steps_are digits_are sum_is = tt
whole_shown t spans k p format plans steps first digits P (Some n) format_is plans_is before steps_are digits_are sum_is = λ f shown.
    let same = format_shown t.methods.now shown in
    whole_number t spans k f format plans steps first digits P (Some n) (ap (format_at t.methods.now k) same ∙ format_is) (ap (write_plan t.entries.now k) same ∙ plans_is)
    (subst (λ m. IsBefore t.spans.now k m first) (sym same) before) steps_are (digits_are f shown) sum_is
