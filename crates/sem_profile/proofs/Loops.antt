-- A list at one of its elements.
use Rattle.std.proofs.Common.{◌≡◌, ℕ, ◌+◌, ◌++◌, List, [], ◌∷◌, suc, zero, take, drop, arith, ap, ◌∙◌}
use Rattle.std.specs.Prelude.{slice_get, Some, None}

-- a list parted at an element
pub parted : {A : Type 0} (xs : List A) (i : ℕ) (x : A) → slice_get xs i ≡ Some x → xs ≡ take i xs ++ x ∷ drop (suc i) xs
parted [] i x h = let wrong : None ≡ Some x = h in absurd cc
parted (y ∷ ys) zero x h = let same : y ≡ x = cc in ap (λ z. z ∷ ys) same
parted (y ∷ ys) (suc i) x h = ap (λ zs. y ∷ zs) (parted ys i x h)

-- a front with one more element
taken_suc : {A : Type 0} (xs : List A) (i : ℕ) (x : A) → slice_get xs i ≡ Some x → take (suc i) xs ≡ take i xs ++ x ∷ []
taken_suc [] i x h = let wrong : None ≡ Some x = h in absurd cc
taken_suc (y ∷ ys) zero x h = let same : y ≡ x = cc in ap (λ z. z ∷ []) same
taken_suc (y ∷ ys) (suc i) x h = ap (λ zs. y ∷ zs) (taken_suc ys i x h)

pub taken : {A : Type 0} (xs : List A) (i : ℕ) (x : A) → slice_get xs i ≡ Some x → take (i + 1) xs ≡ take i xs ++ x ∷ []
taken xs i x h = let e : i + 1 ≡ suc i = omega arith in ap (λ n. take n xs) e ∙ taken_suc xs i x h

-- the rest with the element before it
pub dropped : {A : Type 0} (xs : List A) (i : ℕ) (x : A) → slice_get xs i ≡ Some x → drop i xs ≡ x ∷ drop (suc i) xs
dropped [] i x h = let wrong : None ≡ Some x = h in absurd cc
dropped (y ∷ ys) zero x h = let same : y ≡ x = cc in ap (λ z. z ∷ ys) same
dropped (y ∷ ys) (suc i) x h = dropped ys i x h
