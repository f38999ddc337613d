-- The lines of a text, from its front.
use Rattle.std.proofs.Common.{◌≡◌, ◌≢◌, ℕ, zero, suc, ◌<◌, true, false, List, [], ◌∷◌, length, take, drop, get_or, ◌==◌, refl, arith}
use Rattle.std.proofs.lemmas.Bool.Decides.{Decides-eqb}
use Rattle.tool_input.specs.Bundle.{full_lines}

pub not_ten : (x : ℕ) → x ≢ 10 → (x == 10) ≡ false
not_ten x ne = elim (x == 10) as (λ b. (x == 10) ≡ b → b ≡ false) [ true ↦ λ e. absurd (ne ((Decides-eqb x 10).0 e)) | false ↦ λ e. refl ] refl

-- a line that ends in a line feed, and what follows it
pub one_line : (xs : List ℕ) (n : ℕ) → ((k : ℕ) → k < n → get_or xs k 0 ≢ 10) → n < length xs → get_or xs n 0 ≡ 10 → full_lines xs ≡ take (suc n) xs ∷ full_lines (drop (suc n) xs)
one_line [] n none short is = absurd (omega arith)
one_line (x ∷ xs) zero none short is = rw is refl
one_line (x ∷ xs) (suc n) none short is =
    let rest = one_line xs n (λ k h. none (suc k) (omega arith)) (omega arith) is in
    rw (not_ten x (none 0 (omega arith)), rest) refl

-- a last line with no line feed
pub last_line : (xs : List ℕ) → ((k : ℕ) → k < length xs → get_or xs k 0 ≢ 10) → 0 < length xs → full_lines xs ≡ xs ∷ []
last_line [] none some = absurd (omega arith)
last_line (x ∷ []) none some = rw (not_ten x (none 0 (omega arith))) refl
last_line (x ∷ y ∷ xs) none some =
    let rest = last_line (y ∷ xs) (λ k h. none (suc k) (omega arith)) (omega arith) in
    rw (not_ten x (none 0 (omega arith)), rest) refl
