-- The text of bits is the one that the function gives.
use Rattle.std.proofs.Common.{◌≡◌, ℕ, ◌<◌, Bool, false, List, [], ◌∷◌, ◌++◌, length, replicate, refl, sym, ap, ◌∙◌, subst, arith, ◌^◌}
use Rattle.std.proofs.lemmas.List.{append-nil}
use Rattle.hex.specs.Hex.{IsBytes}
use Rattle.sem_bits.specs.Number.{num, enc}
use Rattle.sem_bits.specs.Octets.{Holds}
use Rattle.sem_bits.specs.Text.{IsText}
use Rattle.sem_bits.proofs.Numbers.{enc-num, num-below}
use Rattle.sem_bits.proofs.Octets.{IsBytes-append, IsBytes-nil, IsBytes-push}
use Rattle.sem_bits.proofs.Texts.{one_text}
use Rattle.tool_input.specs.BitTexts.{bits_text, octets_of}

one_octet : (bits : List Bool) → length bits ≡ 8 → IsBytes (num bits ∷ [])
one_octet bits l =
    let below : num bits < 256 = subst (λ n. num bits < 2 ^ n) l (num-below bits) in
    IsBytes-push [] (num bits) IsBytes-nil below

-- fewer than eight bits, and zeros after them
few_held : (few : List Bool) (k : ℕ) → length (few ++ replicate k false) ≡ 8 → k < 8 → Holds (num (few ++ replicate k false) ∷ []) few
few_held few k l h = record {
  octets_fit = one_octet (few ++ replicate k false) l;
  padding = k;
  few = h;
  filled = append-nil (enc 8 (num (few ++ replicate k false))) ∙ ap (λ n. enc n (num (few ++ replicate k false))) (sym l) ∙ enc-num (few ++ replicate k false);
}

pub octets_held : (bits : List Bool) → Holds (octets_of bits) bits
octets_held [] = record { octets_fit = IsBytes-nil; padding = 0; few = omega arith; filled = refl }
octets_held (a ∷ []) = few_held (a ∷ []) 7 refl (omega arith)
octets_held (a ∷ b ∷ []) = few_held (a ∷ b ∷ []) 6 refl (omega arith)
octets_held (a ∷ b ∷ c ∷ []) = few_held (a ∷ b ∷ c ∷ []) 5 refl (omega arith)
octets_held (a ∷ b ∷ c ∷ d ∷ []) = few_held (a ∷ b ∷ c ∷ d ∷ []) 4 refl (omega arith)
octets_held (a ∷ b ∷ c ∷ d ∷ e ∷ []) = few_held (a ∷ b ∷ c ∷ d ∷ e ∷ []) 3 refl (omega arith)
octets_held (a ∷ b ∷ c ∷ d ∷ e ∷ f ∷ []) = few_held (a ∷ b ∷ c ∷ d ∷ e ∷ f ∷ []) 2 refl (omega arith)
octets_held (a ∷ b ∷ c ∷ d ∷ e ∷ f ∷ g ∷ []) = few_held (a ∷ b ∷ c ∷ d ∷ e ∷ f ∷ g ∷ []) 1 refl (omega arith)
octets_held (a ∷ b ∷ c ∷ d ∷ e ∷ f ∷ g ∷ h ∷ more) =
    let eight : List Bool = a ∷ b ∷ c ∷ d ∷ e ∷ f ∷ g ∷ h ∷ [] in
    let rest = octets_held more in record {
      octets_fit = IsBytes-append (num eight ∷ []) (octets_of more) (one_octet eight refl) rest.octets_fit;
      padding = rest.padding;
      few = rest.few;
      filled = λ i. enc-num eight i ++ rest.filled i;
    }

pub text_is : (text : List ℕ) (bits : List Bool) → IsText text bits → text ≡ bits_text bits
text_is text bits h = one_text text (bits_text bits) bits h record { octets = octets_of bits; held = octets_held bits; spelled = refl }
