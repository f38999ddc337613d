-- Lists that grow at their end.
use Rattle.std.proofs.Common.{◌≡◌, ◌∙◌, refl, sym, ap, subst, ℕ, zero, suc, ◌+◌, List, [], ◌∷◌, ◌++◌, length, arith}
use Rattle.std.specs.Prelude.{slice_get, Some, None}
use Rattle.sem_pages.specs.Made.{AreMade}

-- an element of a list with one more at its end
pub at_end : {A : Type 0} (xs : List A) (x : A) (i : ℕ) (y : A) → slice_get (xs ++ x ∷ []) i ≡ Some y → (P : Type 0) → (slice_get xs i ≡ Some y → P) → (i ≡ length xs → x ≡ y → P) → P
at_end [] x zero y at P old new = let one : Some x ≡ Some y = at in new refl (let same : x ≡ y = cc in same)
at_end [] x (suc i) y at P old new = let wrong : None ≡ Some y = at in absurd cc
at_end (z ∷ zs) x zero y at P old new = old at
at_end (z ∷ zs) x (suc i) y at P old new = at_end zs x i y at P old (λ last same. new (ap suc last) same)

pub front_get : {A : Type 0} (xs ys : List A) (i : ℕ) (x : A) → slice_get xs i ≡ Some x → slice_get (xs ++ ys) i ≡ Some x
front_get [] ys i x at = let wrong : None ≡ Some x = at in absurd cc
front_get (z ∷ zs) ys zero x at = at
front_get (z ∷ zs) ys (suc i) x at = front_get zs ys i x at

pub last_get : {A : Type 0} (xs : List A) (x : A) → slice_get (xs ++ x ∷ []) (length xs) ≡ Some x
last_get [] x = refl
last_get (z ∷ zs) x = last_get zs x

pub length_push : {A : Type 0} (xs : List A) (x : A) → length (xs ++ x ∷ []) ≡ length xs + 1
length_push [] x = refl
length_push (z ∷ zs) x = let rest = length_push zs x in omega (arith, rest)

pub made_none : {A B : Type 0} (R : A → B → Type 0) (xs : List A) (n : ℕ) → n ≡ 0 → AreMade R xs [] n
made_none R xs n none = record { count = sym none; each = λ i x y here there. let wrong : None ≡ Some y = there in absurd cc }

-- with one more
pub made_next : {A B : Type 0} (R : A → B → Type 0) (xs : List A) (ys : List B) (n : ℕ) (x : A) (y : B) → slice_get xs n ≡ Some x → R x y → AreMade R xs ys n → AreMade R xs (ys ++ y ∷ []) (n + 1)
made_next R xs ys n x y here made so_far = record {
  count = length_push ys y ∙ ap (λ k. k + 1) so_far.count;
  each = λ i x' y' at there. at_end ys y i y' there (R x' y') (λ old. so_far.each i x' y' at old)
      (λ last same.
      let one : Some x ≡ Some x' = sym here ∙ ap (slice_get xs) (sym (last ∙ so_far.count)) ∙ at in
      let x_is : x ≡ x' = cc in
      subst (λ z. R z y') x_is (subst (R x) same made));
}
