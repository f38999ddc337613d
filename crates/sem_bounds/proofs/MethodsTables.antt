-- A table that is filled in the order of calls.
use Rattle.std.proofs.Common.{◌≡◌, ◌≢◌, ◌∙◌, ap, sym, refl, subst, ℕ, ◌+◌, ◌<◌, ◌≤◌, inl, inr, List, [], ◌∷◌, suc, zero, length, map, arith, slice_set, fold}
use Rattle.std.specs.Prelude.{slice_get, option_map, unwrap_or, Some}
use Rattle.std.proofs.lemmas.Option.{slice_get_within}
use Rattle.std.proofs.lemmas.Bool.{cases_order}
use Rattle.sem_expr.specs.declared.expr.Expr.{Expr}
use Rattle.sem_profile.specs.declared.profile.MethodSizes.{MethodSizes}
use Rattle.sem_profile.specs.declared.profile.Encoding.{Encoding}
use Rattle.sem_profile.specs.declared.profile.Encoding.TheVariants as encoding
use Rattle.sem_profile.specs.declared.profile.Format.{Format}
use Rattle.sem_profile.specs.declared.profile.Method.{Method}
use Rattle.sem_profile.specs.Fields.{bounds, sides, whole_at, encoding_sizes, field_sizes, where_listed, lists, narrowed}
use Rattle.sem_profile.specs.Formats.{format_sizes, sized_by}
use Rattle.sem_profile.specs.Methods.{HasSizes, CallsMethod, IsOrder, SizedBefore}
use Rattle.sem_profile.proofs.PassesPlaces.{indexed-same}

-- ---- writes

written : {A : Type 0} → (xs : List A) (k : ℕ) (x : A) → k < length xs → slice_get (slice_set xs k x) k ≡ Some x
written [] k x lt = absurd (omega arith)
written (y ∷ ys) zero x lt = refl
written (y ∷ ys) (suc k) x lt = written ys k x (omega arith)

unwritten : {A : Type 0} → (xs : List A) (k j : ℕ) (x : A) → j ≢ k → slice_get (slice_set xs k x) j ≡ slice_get xs j
unwritten [] k j x ne = refl
unwritten (y ∷ ys) zero zero x ne = absurd (ne refl)
unwritten (y ∷ ys) zero (suc j) x ne = refl
unwritten (y ∷ ys) (suc k) zero x ne = refl
unwritten (y ∷ ys) (suc k) (suc j) x ne = unwritten ys k j x (λ e. ne (ap suc e))

same-length : {A : Type 0} → (xs : List A) (k : ℕ) (x : A) → length (slice_set xs k x) ≡ length xs
same-length [] k x = refl
same-length (y ∷ ys) zero x = refl
same-length (y ∷ ys) (suc k) x = ap suc (same-length ys k x)

-- ---- tables that say the same of the called methods

encoding-same : (t u : List MethodSizes) (e : Encoding) → ((k : ℕ) (es : List Expr) → e ≡ encoding.Call k es → whole_at t k ≡ whole_at u k) → encoding_sizes t e ≡ encoding_sizes u e
encoding-same t u encoding.Bare same = refl
encoding-same t u (encoding.Library l) same = refl
encoding-same t u (encoding.Call k es) same = same k es refl

SameCalled : List MethodSizes → List MethodSizes → Method → Type 0
SameCalled t u m = (k : ℕ) → CallsMethod m k → whole_at t k ≡ whole_at u k

format-same : (t u : List MethodSizes) (m : Method) (n : ℕ) (format : Format) → slice_get m.formats n ≡ Some format → ((k : ℕ) → CallsMethod m k → whole_at t k ≡ whole_at u k)
    → format_sizes t format ≡ format_sizes u format
format-same t u m n format at same =
    ap (sized_by format) (indexed-same (field_sizes t format) (field_sizes u format) 0 format.fields (λ i d here.
    ap (λ s. fold (narrowed (0 + i)) (where_listed (lists format.listing (0 + i)) s) format.constraints)
    (encoding-same t u d.encoding (λ k es is. same k record {
      format = format;
      format_place = n;
      format_at = at;
      field = d;
      field_place = i;
      field_at = here;
      arguments = es;
      is_call = is;
    }))))

pub map-same : {A B : Type 0} → (f g : A → B) (xs : List A) → ((n : ℕ) (x : A) → slice_get xs n ≡ Some x → f x ≡ g x) → map f xs ≡ map g xs
map-same f g [] same = refl
map-same f g (x ∷ xs) same = let here = same 0 x refl in let rest = map-same f g xs (λ n y at. same (suc n) y at) in λ i. here i ∷ rest i

pub has-same : (t u : List MethodSizes) (m : Method) (s : MethodSizes) → ((k : ℕ) → CallsMethod m k → whole_at t k ≡ whole_at u k) → HasSizes t m s → HasSizes u m s
has-same t u m s same h = record {
  formats_are = h.formats_are ∙ map-same (format_sizes t) (format_sizes u) m.formats (λ n format at. format-same t u m n format at same);
  whole_is = h.whole_is;
}

unwritten-whole : (t : List MethodSizes) (k j : ℕ) (s : MethodSizes) → j ≢ k → whole_at t j ≡ whole_at (slice_set t k s) j
unwritten-whole t k j s ne = ap (λ o. unwrap_or (option_map (λ m. m.whole) o) (sides (bounds 0 0) (bounds 0 0))) (sym (unwritten t k j s ne))

-- ---- one more method

-- what a method at or before the place calls isn't the method at the place
called-before : (methods : List Method) (order : List ℕ) (n k : ℕ) → IsOrder methods order → k < length methods → slice_get order n ≡ Some k
    → (i l j : ℕ) (m : Method) → i ≤ n → slice_get order i ≡ Some l → slice_get methods l ≡ Some m → CallsMethod m j → j ≢ k
called-before methods order n k is lt at i l j m le at-i here calls e =
    let p = is.before i l j m at-i here calls in
    let same : p.0 ≡ n = is.once p.0 n k lt (p.2 ∙ ap Some e) at in
    absurd (omega (arith, p.1))

abbrev OneSized : List MethodSizes → ℕ → Method → Type 0
OneSized table l q = (r : MethodSizes) × (slice_get table l ≡ Some r) × HasSizes table q r

-- every place up to n: before it, or n itself
up-to : (methods : List Method) (order : List ℕ) (n k : ℕ) (m : Method) (table : List MethodSizes) → slice_get order n ≡ Some k → slice_get methods k ≡ Some m
    → ((i l : ℕ) (q : Method) → i < n → slice_get order i ≡ Some l → slice_get methods l ≡ Some q → OneSized table l q) → OneSized table k m
    → (i l : ℕ) (q : Method) → i < n + 1 → slice_get order i ≡ Some l → slice_get methods l ≡ Some q → OneSized table l q
up-to methods order n k m table at here before one-more i l q below at-i at-l =
    elim (cases_order i n) as (λ _. OneSized table l q) [
      | inl e ↦
          let both : Some k ≡ Some l = sym at ∙ (subst (λ j. slice_get order j ≡ Some l) e at-i) in
          let same : k ≡ l = cc in
          let methods-same : Some m ≡ Some q = sym here ∙ subst (λ j. slice_get methods j ≡ Some q) (sym same) at-l in
          let same-method : m ≡ q = cc in
          subst (λ j. OneSized table j q) same (subst (OneSized table k) same-method one-more)
      | inr o ↦ elim o as (λ _. OneSized table l q) [ inl less ↦ before i l q less at-i at-l | inr more ↦ absurd (omega arith) ]
    ]

pub sized-more : (methods : List Method) (order : List ℕ) (n k : ℕ) (m : Method) (table : List MethodSizes) (s : MethodSizes) → IsOrder methods order → slice_get order n ≡ Some k
    → slice_get methods k ≡ Some m → SizedBefore methods order n table → HasSizes table m s → SizedBefore methods order (n + 1) (slice_set table k s)
sized-more methods order n k m table s is at here before sized =
    let lt : k < length methods = slice_get_within methods k m here in
    let inside : k < length table = omega (arith, before.each) in
    let kept = λ (i l : ℕ) (q : Method) (le : i ≤ n) (at-i : slice_get order i ≡ Some l) (at-l : slice_get methods l ≡ Some q) (r : MethodSizes) (h : HasSizes table q r).
    has-same table (slice_set table k s) q r (λ j calls. unwritten-whole table k j s (called-before methods order n k is lt at i l j q le at-i at-l calls)) h in
    record {
      each = same-length table k s ∙ before.each;
      sized = up-to methods order n k m (slice_set table k s) at here
          (λ i l q less at-i at-l.
          let old = before.sized i l q less at-i at-l in
          let ne : l ≢ k = λ e. let same : i ≡ n = is.once i n k lt (at-i ∙ ap Some e) at in absurd (omega arith) in
          (old.0, unwritten table k l s ne ∙ old.1, kept i l q (omega arith) at-i at-l old.0 old.2))
          (s, written table k s inside, kept n k m (omega arith) at here s sized);
    }

-- ---- the whole order

pub all-sized : (methods : List Method) (order : List ℕ) (table : List MethodSizes) → IsOrder methods order → SizedBefore methods order (length order) table
    → (k : ℕ) (m : Method) (s : MethodSizes) → slice_get methods k ≡ Some m → slice_get table k ≡ Some s → HasSizes table m s
all-sized methods order table is sized k m s here at =
    let place = is.each k (slice_get_within methods k m here) in
    let found = sized.sized place.0 k m (slice_get_within order place.0 k place.1) place.1 here in
    let both : Some found.0 ≡ Some s = sym found.1 ∙ at in
    let same : found.0 ≡ s = cc in
    subst (HasSizes table m) same found.2
