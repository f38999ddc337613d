-- Arguments, so many of them.
use Rattle.std.proofs.Common.{◌≡◌, ◌≤◌, ◌<◌, List, [], ◌∷◌, length, get_or, arith, sym}

pub five_items : {A : Type 0} (xs : List A) (a b c d e : A) → 5 ≤ length xs → length xs < 6 → a ≡ get_or xs 0 a → b ≡ get_or xs 1 b → c ≡ get_or xs 2 c → d ≡ get_or xs 3 d → e ≡ get_or xs 4 e
    → xs ≡ a ∷ b ∷ c ∷ d ∷ e ∷ []
five_items [] a b c d e lo hi p q r s t = absurd (omega arith)
five_items (v ∷ []) a b c d e lo hi p q r s t = absurd (omega arith)
five_items (v ∷ w ∷ []) a b c d e lo hi p q r s t = absurd (omega arith)
five_items (v ∷ w ∷ x ∷ []) a b c d e lo hi p q r s t = absurd (omega arith)
five_items (v ∷ w ∷ x ∷ y ∷ []) a b c d e lo hi p q r s t = absurd (omega arith)
five_items (v ∷ w ∷ x ∷ y ∷ z ∷ []) a b c d e lo hi p q r s t = λ i. sym p i ∷ sym q i ∷ sym r i ∷ sym s i ∷ sym t i ∷ []
five_items (v ∷ w ∷ x ∷ y ∷ z ∷ u ∷ xs) a b c d e lo hi p q r s t = absurd (omega arith)

pub two_items : {A : Type 0} (xs : List A) (a b : A) → 2 ≤ length xs → length xs < 3 → a ≡ get_or xs 0 a → b ≡ get_or xs 1 b → xs ≡ a ∷ b ∷ []
two_items [] a b lo hi p q = absurd (omega arith)
two_items (v ∷ []) a b lo hi p q = absurd (omega arith)
two_items (v ∷ w ∷ []) a b lo hi p q = λ i. sym p i ∷ sym q i ∷ []
two_items (v ∷ w ∷ x ∷ xs) a b lo hi p q = absurd (omega arith)
