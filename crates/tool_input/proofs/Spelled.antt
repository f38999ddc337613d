-- The text of bits that goes on a text.
use Rattle.std.proofs.Common.{◌≡◌, ◌∙◌, ℕ, ◌^◌, ◌<◌, Bool, List, ◌∷◌, ◌++◌, length, ap, sym, subst, append_assoc}
use Rattle.std.specs.Prelude.{decimal}
use Rattle.hex.specs.Hex.{encode_lower}
use Rattle.sem_bits.specs.Number.{enc, num}
use Rattle.sem_bits.specs.Octets.{Holds}
use Rattle.sem_bits.specs.Text.{IsText}
use Rattle.sem_bits.proofs.Numbers.{enc-num, length-enc, num-below}
use Rattle.tool_input.specs.ItemTexts.{HasMore}

pub word_grown : (count word : ℕ) (octets before after : List ℕ) → Holds octets (enc count word) → after ≡ before ++ decimal count ++ 58 ∷ encode_lower octets → HasMore (λ spelled. IsText spelled (enc count word)) before after
word_grown count word octets before after h e =
    (decimal count ++ 58 ∷ encode_lower octets, record { octets = octets; held = h; spelled = ap (λ n. decimal n ++ 58 ∷ encode_lower octets) (sym (length-enc count word)) }, e ∙ append_assoc before (decimal count) (58 ∷ encode_lower octets))

pub word_fits : (bits : List Bool) (count word : ℕ) → count ≡ length bits → word ≡ num bits → word < 2 ^ count
word_fits bits count word c w = subst (λ n. word < 2 ^ n) (sym c) (subst (λ v. v < 2 ^ length bits) (sym w) (num-below bits))

pub bits_grown : (bits : List Bool) (count word : ℕ) (before after : List ℕ) → count ≡ length bits → word ≡ num bits → HasMore (λ spelled. IsText spelled (enc count word)) before after → HasMore (λ spelled. IsText spelled bits) before after
bits_grown bits count word before after c w h =
    let same : enc count word ≡ bits = (λ i. enc (c i) (w i)) ∙ enc-num bits in
    (h.0, subst (IsText h.0) same h.1, h.2)
