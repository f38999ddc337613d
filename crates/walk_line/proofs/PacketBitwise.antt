-- Bits of octets, and bits that are all zero.
use Rattle.std.proofs.Common.{◌≡◌, ◌∙◌, sym, ap, ℕ, ◌<◌, Bool, true, false, List, length, replicate, get_or}
use Rattle.std.proofs.lemmas.List.{ext_get_or, length-replicate, get_or-replicate}

pub zero_bits : (bits : List Bool) → ((k : ℕ) → k < length bits → get_or bits k false ≡ false) → bits ≡ replicate (length bits) false
zero_bits bits each = ext_get_or false bits (replicate (length bits) false) (sym (length-replicate (length bits) false)) (λ i l. each i l ∙ sym (get_or-replicate (length bits) i false false l))

pub not_zero_bits : (bits : List Bool) (k : ℕ) → k < length bits → get_or bits k false ≡ true → bits ≡ replicate (length bits) false → ⊥
not_zero_bits bits k l one e =
    let no_one : true ≡ false = sym one ∙ ap (λ b. get_or b k false) e ∙ get_or-replicate (length bits) k false false l in
    cc
