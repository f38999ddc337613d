-- Lists that grow at their end, whose elements are of what stands at their place.
use Rattle.std.proofs.Common.{◌≡◌, ◌∙◌, refl, sym, ap, subst, ℕ, ◌+◌, List, [], ◌∷◌, ◌++◌, length, arith}
use Rattle.std.specs.Prelude.{slice_get, Some}
use Rattle.sem_pages.proofs.Growing.{at_end}

length_push : {A : Type 0} (xs : List A) (x : A) → length (xs ++ x ∷ []) ≡ length xs + 1
length_push [] x = refl
length_push (y ∷ ys) x = let rest = length_push ys x in omega (arith, rest)

pub length_next : {A : Type 0} (xs : List A) (x : A) (n : ℕ) → length xs ≡ n → length (xs ++ x ∷ []) ≡ n + 1
length_next xs x n long = length_push xs x ∙ ap (λ k. k + 1) long

-- with one more
pub each_next : {A B : Type 0} (R : ℕ → A → B → Type 0) (xs : List A) (ys : List B) (n : ℕ) (x : A) (y : B) → length ys ≡ n → slice_get xs n ≡ Some x → R n x y
    → ((i : ℕ) (x : A) (y : B) → slice_get xs i ≡ Some x → slice_get ys i ≡ Some y → R i x y) → (i : ℕ) (x' : A) (y' : B) → slice_get xs i ≡ Some x' → slice_get (ys ++ y ∷ []) i ≡ Some y' → R i x' y'
each_next R xs ys n x y long here made each i x' y' at there = at_end ys y i y' there (R i x' y') (λ old. each i x' y' at old)
    (λ last same.
    let place : i ≡ n = last ∙ long in
    let one : Some x ≡ Some x' = sym here ∙ ap (slice_get xs) (sym place) ∙ at in
    let x_is : x ≡ x' = cc in
    subst (λ k. R k x' y') (sym place) (subst (λ z. R n z y') x_is (subst (R n x) same made)))
