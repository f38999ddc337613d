-- Elements of a list to which one was added.
use Rattle.std.proofs.Common.{◌≡◌, ℕ, ◌<◌, ◌+◌, ◌⊎◌, inl, inr, List, [], ◌∷◌, ◌++◌, suc, zero, length, get_or, slice_get, unwrap_or, Some, arith, refl, ap}

pub some_is : {X : Type 0} {x y : X} → Some x ≡ Some y → x ≡ y
some_is {x = x} e = ap (λ o. unwrap_or o x) e

pub get_pushed : {X : Type 0} (xs : List X) (x : X) (p : ℕ) (y : X) → slice_get (xs ++ x ∷ []) p ≡ Some y → (slice_get xs p ≡ Some y) ⊎ (p ≡ length xs) × (x ≡ y)
get_pushed [] x zero y e = inr (refl, some_is e)
get_pushed [] x (suc p) y e = inl e
get_pushed (z ∷ xs) x zero y e = inl e
get_pushed (z ∷ xs) x (suc p) y e = elim (get_pushed xs x p y e) as (λ _. (slice_get xs p ≡ Some y) ⊎ (suc p ≡ suc (length xs)) × (x ≡ y)) [ inl h ↦ inl h | inr h ↦ inr (ap suc h.0, h.1) ]

pub get_kept : {X : Type 0} (xs : List X) (x : X) (p : ℕ) (y : X) → slice_get xs p ≡ Some y → slice_get (xs ++ x ∷ []) p ≡ Some y
get_kept [] x zero y e = absurd cc
get_kept [] x (suc p) y e = absurd cc
get_kept (z ∷ xs) x zero y e = e
get_kept (z ∷ xs) x (suc p) y e = get_kept xs x p y e

pub get_last : {X : Type 0} (xs : List X) (x : X) → slice_get (xs ++ x ∷ []) (length xs) ≡ Some x
get_last [] x = refl
get_last (z ∷ xs) x = get_last xs x

pub get_below : {X : Type 0} (xs : List X) (p : ℕ) (y : X) → slice_get xs p ≡ Some y → p < length xs
get_below [] zero y e = absurd cc
get_below [] (suc p) y e = absurd cc
get_below (z ∷ xs) zero y e = omega arith
get_below (z ∷ xs) (suc p) y e = omega (arith, get_below xs p y e)

pub pushed_length : {X : Type 0} (xs : List X) (x : X) → length (xs ++ x ∷ []) ≡ length xs + 1
pushed_length [] x = refl
pushed_length (z ∷ xs) x = omega (arith, pushed_length xs x)

pub unwrap_get : {X : Type 0} (xs : List X) (i : ℕ) (d : X) → unwrap_or (slice_get xs i) d ≡ get_or xs i d
unwrap_get [] zero d = refl
unwrap_get [] (suc i) d = refl
unwrap_get (x ∷ xs) zero d = refl
unwrap_get (x ∷ xs) (suc i) d = unwrap_get xs i d
