-- What the elements of a front give, with one more.
use Rattle.std.proofs.Common.{◌≡◌, ◌∙◌, ap, ℕ, ◌+◌, ◌≤◌, List, [], ◌∷◌, ◌++◌, refl, suc, zero, arith, length, take, append-nil}
use Rattle.std.specs.Prelude.{slice_get, Some, Option}
use Rattle.std.specs.List.{filter_map, flat_map}
use Rattle.std.proofs.lemmas.Grind.{flat_map-append}
use Rattle.std.proofs.lemmas.List.Elements.{filter_map-append}
use Rattle.sem_profile.proofs.Loops.{taken}

pub lists_taken : {X Y : Type 0} (f : X → List Y) (xs : List X) (i : ℕ) (x : X) → slice_get xs i ≡ Some x → flat_map f (take (i + 1) xs) ≡ flat_map f (take i xs) ++ f x
lists_taken f xs i x here =
    ap (flat_map f) (taken xs i x here) ∙ flat_map-append f (take i xs) (x ∷ []) ∙ ap (λ ys. flat_map f (take i xs) ++ ys) (append-nil (f x))

pub options_taken : {X Y : Type 0} (f : X → Option Y) (xs : List X) (i : ℕ) (x : X) → slice_get xs i ≡ Some x
    → filter_map f (take (i + 1) xs) ≡ filter_map f (take i xs) ++ filter_map f (x ∷ [])
options_taken f xs i x here = ap (filter_map f) (taken xs i x here) ∙ filter_map-append f (take i xs) (x ∷ [])

pub whole_front : {X : Type 0} (xs : List X) (i : ℕ) → length xs ≤ i → take i xs ≡ xs
whole_front [] zero past = refl
whole_front [] (suc i) past = refl
whole_front (x ∷ xs) zero past = absurd (omega arith)
whole_front (x ∷ xs) (suc i) past = ap (λ ys. x ∷ ys) (whole_front xs i (omega arith))
