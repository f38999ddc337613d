-- What the earliest fault of a list stands for.
use Rattle.std.proofs.Common.{◌≡◌, ◌∙◌, ap, sym, refl, ℕ, ◌+◌, ◌<◌, ◌≤◌, ◌^◌, ◌⊎◌, inl, inr, nat_le, true, List, [], ◌∷◌, suc, zero, length, arith}
use Rattle.std.specs.Prelude.{slice_get, Some, None, Option}
use Rattle.std.proofs.lemmas.Option.{slice_get_within}
use Rattle.std.proofs.lemmas.Bool.Decides.{nat_tests}
use Rattle.sem_profile.specs.declared.profile.Sizes.{Sizes}
use Rattle.sem_profile.specs.declared.profile.FormatSizes.{FormatSizes}
use Rattle.sem_profile.specs.declared.profile.MethodSizes.{MethodSizes}
use Rattle.sem_profile.specs.declared.profile.Format.{Format}
use Rattle.sem_profile.specs.declared.profile.Method.{Method}
use Rattle.sem_profile.specs.declared.fault.ProfileFault.{ProfileFault}
use Rattle.sem_profile.specs.Precedence.{earlier, Judged}
use Rattle.sem_profile.specs.Passes.{folded}
use Rattle.sem_profile.specs.Ranging.{format_ranges}
use Rattle.sem_profile.specs.declared.extent.Extent.{Extent}
use Rattle.sem_profile.specs.declared.extent.Extent.TheVariants.{Whole}
use Rattle.sem_profile.specs.BoundsFaults.{sized_fault, method_fault, methods_fault, format_fault}
use Rattle.sem_profile.specs.Methods.{IsOrder, SizedBefore, is_short, is_within, IsShortAt, ArePacked, IsWide}
use Rattle.sem_profile.specs.Parameters.{only_zero, RangedFrom}
use Rattle.sem_profile.specs.Outcome.{FormatAt, IsFine, IsFaulty, is_wide, in_format, AreSizes}
use Rattle.sem_profile.proofs.FaultsFolding.{which, neither}
use Rattle.sem_bounds.proofs.MethodsTables.{all-sized}

-- ---- the earliest of a list

none-kept : {A : Type 0} → (judge : ℕ → A → Option ProfileFault) (n : ℕ) (o : Option ProfileFault) (xs : List A) → folded (λ i c x. earlier c (judge i x)) n o xs ≡ None
    → (o ≡ None) × ((i : ℕ) (x : A) → slice_get xs i ≡ Some x → judge (n + i) x ≡ None)
none-kept judge n o [] e = (e, λ i x at. let wrong : None ≡ Some x = at in absurd cc)
none-kept {A = A} judge n o (y ∷ ys) e =
    let rest = none-kept judge (n + 1) (earlier o (judge n y)) ys e in
    let both = neither o (judge n y) rest.0 in
    (both.0, go both.1 rest.1)
  where
    go : judge n y ≡ None → ((i : ℕ) (x : A) → slice_get ys i ≡ Some x → judge (n + 1 + i) x ≡ None) → (i : ℕ) (x : A) → slice_get (y ∷ ys) i ≡ Some x → judge (n + i) x ≡ None
    go here later zero x at = let same : y ≡ x = cc in ap (λ k. judge k x) (let z : n + 0 ≡ n = omega arith in z) ∙ ap (judge n) (sym same) ∙ here
    go here later (suc i) x at = ap (λ k. judge k x) (let z : n + suc i ≡ n + 1 + i = omega arith in z) ∙ later i x at

some-kept : {A : Type 0} → (judge : ℕ → A → Option ProfileFault) (n : ℕ) (o : Option ProfileFault) (xs : List A) (f : ProfileFault) → folded (λ i c x. earlier c (judge i x)) n o xs ≡ Some f
    → (o ≡ Some f) ⊎ ((i : ℕ) × (x : A) × (slice_get xs i ≡ Some x) × (judge (n + i) x ≡ Some f))
some-kept judge n o [] f e = inl e
some-kept {A = A} judge n o (y ∷ ys) f e =
    elim (some-kept judge (n + 1) (earlier o (judge n y)) ys f e) as (λ _. (o ≡ Some f) ⊎ ((i : ℕ) × (x : A) × (slice_get (y ∷ ys) i ≡ Some x) × (judge (n + i) x ≡ Some f))) [
      | inl first ↦ elim (which o (judge n y) f first) as (λ _. (o ≡ Some f) ⊎ ((i : ℕ) × (x : A) × (slice_get (y ∷ ys) i ≡ Some x) × (judge (n + i) x ≡ Some f))) [
        | inl before ↦ inl before
        | inr here ↦ inr (0, y, refl, ap (λ k. judge k y) (let z : n + 0 ≡ n = omega arith in z) ∙ here)
      ]
      | inr later ↦ inr (suc later.0, later.1, later.2, ap (λ k. judge k later.1) (let z : n + suc later.0 ≡ n + 1 + later.0 = omega arith in z) ∙ later.3)
    ]

none-of : {A : Type 0} → (judge : ℕ → A → Option ProfileFault) (xs : List A) → folded (λ i c x. earlier c (judge i x)) 0 None xs ≡ None
    → (i : ℕ) (x : A) → slice_get xs i ≡ Some x → judge i x ≡ None
none-of judge xs e i x at = ap (λ k. judge k x) (let z : i ≡ 0 + i = omega arith in z) ∙ (none-kept judge 0 None xs e).1 i x at

some-of : {A : Type 0} → (judge : ℕ → A → Option ProfileFault) (xs : List A) (f : ProfileFault) → folded (λ i c x. earlier c (judge i x)) 0 None xs ≡ Some f
    → (i : ℕ) × (x : A) × (slice_get xs i ≡ Some x) × (judge i x ≡ Some f)
some-of {A = A} judge xs f e =
    elim (some-kept judge 0 None xs f e) as (λ _. (i : ℕ) × (x : A) × (slice_get xs i ≡ Some x) × (judge i x ≡ Some f)) [
      | inl before ↦ let wrong : None ≡ Some f = before in absurd cc
      | inr found ↦ (found.0, found.1, found.2, ap (λ k. judge k found.1) (let z : found.0 ≡ 0 + found.0 = omega arith in z) ∙ found.3)
    ]

-- ---- of the methods of a table

all-accepted : (x : Extent) (methods : List Method) (table : List MethodSizes) → methods_fault x methods table ≡ None
    → (m : Method) (format : Format) (s : MethodSizes) (sizes : FormatSizes) → FormatAt methods table m format s sizes → format_fault x format sizes (format_ranges sizes s.parameters) ≡ None
all-accepted x methods table e m format s sizes at =
    let of-method = none-of (λ i q. method_fault x q (slice_get table i)) methods e at.method_place m at.method_at in
    let here = ap (method_fault x m) (sym at.whole_at) ∙ of-method in
    let of-format = none-of (λ n q. sized_fault x s.parameters q (slice_get s.formats n)) m.formats here at.format_place format at.format_at in
    ap (sized_fault x s.parameters format) (sym at.sizes_at) ∙ of-format

format-in : (x : Extent) (methods : List Method) (table : List MethodSizes) (f : ProfileFault) (i : ℕ) (m : Method) → slice_get methods i ≡ Some m → (s : MethodSizes) → slice_get table i ≡ Some s
    → (n : ℕ) (format : Format) → slice_get m.formats n ≡ Some format → sized_fault x s.parameters format (slice_get s.formats n) ≡ Some f → IsFaulty x methods table f
format-in x methods table f i m at-i s at-s n format at-n = by (slice_get s.formats n) refl
  where
    by : (o : Option FormatSizes) → slice_get s.formats n ≡ o → sized_fault x s.parameters format o ≡ Some f → IsFaulty x methods table f
    by None at-o e = let wrong : None ≡ Some f = e in absurd cc
    by (Some sizes) at-o e = in_format record { method_place = i; method_at = at-i; whole_at = at-s; format_place = n; format_at = at-n; sizes_at = at-o } e

method-in : (x : Extent) (methods : List Method) (table : List MethodSizes) (f : ProfileFault) (i : ℕ) (m : Method) → slice_get methods i ≡ Some m → method_fault x m (slice_get table i) ≡ Some f
    → IsFaulty x methods table f
method-in x methods table f i m at-i = by (slice_get table i) refl
  where
    by : (o : Option MethodSizes) → slice_get table i ≡ o → method_fault x m o ≡ Some f → IsFaulty x methods table f
    by None at-o e = let wrong : None ≡ Some f = e in absurd cc
    by (Some s) at-o e =
        let found = some-of (λ n q. sized_fault x s.parameters q (slice_get s.formats n)) m.formats f e in
        format-in x methods table f i m at-i s at-o found.0 found.1 found.2 found.3

found-in : (x : Extent) (methods : List Method) (table : List MethodSizes) (f : ProfileFault) → methods_fault x methods table ≡ Some f → IsFaulty x methods table f
found-in x methods table f e =
    let found = some-of (λ i q. method_fault x q (slice_get table i)) methods f e in
    method-in x methods table f found.0 found.1 found.2 found.3

both-halves : (s : Sizes) → is_short s ≡ true → s.compressed.most ≤ 2 ^ 18 → is_within s ≡ true
both-halves s short packed = let tight : nat_le s.compressed.most (2 ^ 18) ≡ true = grind (arith, nat_tests) in rw short tight

pub faults-judged : (x : Extent) (methods : List Method) (table : List MethodSizes) (wide all found : Option ProfileFault) → ArePacked methods table
    → Judged ((k : ℕ) → k < length methods → IsShortAt methods table k) (IsWide methods table) wide → all ≡ methods_fault x methods table
    → found ≡ earlier wide all → Judged (IsFine x methods table) (IsFaulty x methods table) found
faults-judged x methods table wide all found packed limit is so = record {
  fine = λ e.
      let both = neither wide all (sym so ∙ e) in
      let short = limit.fine both.0 in
      record {
        within = λ k m s here at. both-halves s.whole (short k (slice_get_within methods k m here) m s here at) (packed k m s here at);
        accepted = all-accepted x methods table (sym is ∙ both.1);
      };
  cause = λ f e.
      elim (which wide all f (sym so ∙ e)) as (λ _. IsFaulty x methods table f) [
        | inl w ↦ is_wide (limit.cause f w)
        | inr y ↦ found-in x methods table f (sym is ∙ y)
      ];
}

pub are-sizes : (methods : List Method) (order : List ℕ) (table : List MethodSizes) → IsOrder methods order → SizedBefore methods order (length order) table → RangedFrom only_zero methods order 0 table
    → IsFine Whole methods table → AreSizes methods table
are-sizes methods order table is sized ranged fine = record {
  each = sized.each;
  sized = all-sized methods order table is sized;
  ranged = λ k m s here at. let place = is.each k (slice_get_within methods k m here) in ranged.ranged place.0 k m s (omega arith) place.1 here at;
  fine = fine;
}
