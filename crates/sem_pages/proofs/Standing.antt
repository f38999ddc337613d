-- Bits that stand at a place of others, told by their count and their number.
use Rattle.std.proofs.Common.{◌≡◌, ◌∙◌, sym, ap, ℕ, ◌+◌, ◌-◌, ◌≤◌, List, ◌++◌, Bool, length, take, drop, arith}
use Rattle.std.specs.Prelude.{slice_range}
use Rattle.std.proofs.lemmas.List.{length-drop}
use Rattle.sem_bits.specs.Number.{num, enc}
use Rattle.sem_bits.proofs.CursorLists.{length_part, take_add}
use Rattle.sem_bits.proofs.Numbers.{enc-num}

pub stand_there : (left w : List Bool) (p n x y : ℕ) → n ≡ length w → p + n ≤ length left → x ≡ num (slice_range left p (p + n)) → y ≡ num w → x ≡ y → take (p + n) left ≡ take p left ++ w
stand_there left w p n x y count within found own same =
    let few : n ≤ length (drop p left) = omega (arith, within, length-drop p left) in
    let long = length_part left p n few in
    let s = slice_range left p (p + n) in
    let is : s ≡ w = sym (enc-num s) ∙ (λ i. enc ((long ∙ count) i) ((sym found ∙ same ∙ own) i)) ∙ enc-num w in
    let part : s ≡ take n (drop p left) = let e : (p + n) - p ≡ n = omega arith in ap (λ k. take k (drop p left)) e in
    take_add p n left ∙ ap (λ z. take p left ++ z) (sym part ∙ is)
