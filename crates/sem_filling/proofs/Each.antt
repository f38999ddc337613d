-- A fact of each element of a list, from the first on.
use Rattle.std.proofs.Common.{◌≡◌, ◌∙◌, refl, sym, ap, ℕ, ◌+◌, ◌<◌, ◌≤◌, Bool, true, false, nat_eq, List, length, arith, subst}
use Rattle.std.specs.Prelude.{slice_get, Some}
use Rattle.std.proofs.lemmas.Bool.{eqb-true, eqb-false}
use Rattle.std.proofs.lemmas.Option.{slice_get_within}

-- of each element before the place i
abbrev pub Before : {A : Type 0} → (ℕ → A → Type 0) → List A → ℕ → Type 0
Before P xs i = (j : ℕ) (x : _) → j < i → slice_get xs j ≡ Some x → P j x

pub before_start : {A : Type 0} (P : ℕ → A → Type 0) (xs : List A) (i : ℕ) → i ≡ 0 → Before P xs i
before_start P xs i e j x lt at = absurd (omega (arith, e))

pub before_next : {A : Type 0} (P : ℕ → A → Type 0) (xs : List A) (i : ℕ) (x : A) → slice_get xs i ≡ Some x → P i x → Before P xs i → Before P xs (i + 1)
before_next P xs i x here holds before j y lt at = by (nat_eq j i) refl
  where
    by : (b : Bool) → nat_eq j i ≡ b → P j y
    by true e =
        let same : j ≡ i = eqb-true j i e in
        let one : Some x ≡ Some y = sym here ∙ ap (slice_get xs) (sym same) ∙ at in
        let y_is : x ≡ y = cc in
        subst (λ k. P k y) (sym same) (subst (P i) y_is holds)
    by false e = let apart : j ≡ i → ⊥ = eqb-false j i e in before j y (omega (arith, lt, apart)) at

pub before_end : {A : Type 0} (P : ℕ → A → Type 0) (xs : List A) (i : ℕ) → length xs ≤ i → Before P xs i → (j : ℕ) (x : A) → slice_get xs j ≡ Some x → P j x
before_end P xs i e before j x at = before j x (omega (arith, slice_get_within xs j x at, e)) at
