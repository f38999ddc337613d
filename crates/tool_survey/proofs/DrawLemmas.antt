-- Texts that are drawn piece by piece.
use Rattle.std.proofs.Common.{◌≡◌, ℕ, suc, ◌+◌, ◌-◌, ◌<◌, ◌≤◌, List, ◌++◌, ap, sym, ◌∙◌, append_assoc, arith}
use Rattle.std.specs.Prelude.{Result, Ok, Err, OnOk, flat_map}
use Rattle.std.specs.List.{range_with_len}
use Rattle.std.proofs.lemmas.List.{append-nil}

-- the text so far, and what a function gives for each number that is left, are the whole
abbrev pub Ranges : (ℕ → List ℕ) → ℕ → ℕ → List ℕ → List ℕ → Type 0
Ranges f i n so_far whole = so_far ++ flat_map f (range_with_len i (n - i)) ≡ whole

pub ranges_on : (f : ℕ → List ℕ) (i n : ℕ) (so_far next whole : List ℕ) → i < n → next ≡ so_far ++ f i → Ranges f i n so_far whole → Ranges f (i + 1) n next whole
ranges_on f i n so_far next whole h e so =
    let one : n - i ≡ suc (n - (i + 1)) = omega (arith, h) in
    let left = flat_map f (range_with_len (i + 1) (n - (i + 1))) in
    ap (λ t. t ++ left) e ∙ append_assoc so_far (f i) left ∙ ap (λ k. so_far ++ flat_map f (range_with_len i k)) (sym one) ∙ so

pub ranges_end : (f : ℕ → List ℕ) (i n : ℕ) (so_far whole : List ℕ) → n ≤ i → Ranges f i n so_far whole → so_far ≡ whole
ranges_end f i n so_far whole h so =
    let none : n - i ≡ 0 = omega (arith, h) in
    sym (append-nil so_far) ∙ ap (λ k. so_far ++ flat_map f (range_with_len i k)) (sym none) ∙ so

-- the text so far and two pieces more
pub two_pieces : {T E : Type 0} (r : Result T E) (old mid new one other whole : List ℕ) → mid ≡ old ++ one → one ++ other ≡ whole → OnOk r (new ≡ mid ++ other) → OnOk r (new ≡ old ++ whole)
two_pieces (Ok x) old mid new one other whole e f h = h ∙ (ap (λ t. t ++ other) e ∙ (append_assoc old one other ∙ ap (λ t. old ++ t) f))
two_pieces (Err x) old mid new one other whole e f h = tt
