use Rattle.std.proofs.Common.{◌≡◌, ℕ, zero, suc, ◌+◌, ◌*◌, ◌<◌, List, [], ◌∷◌, ◌++◌, length, take, get_or, refl, ap, ◌∙◌, arith, length-append}
use Rattle.std.proofs.lemmas.List.{take_more, append-nil}
use Rattle.std.proofs.lemmas.List.Concat.{flat_map-append}
use Rattle.hex.specs.Hex.{IsBytes}
use Rattle.sem_bits.specs.Number.{enc}
use Rattle.sem_bits.specs.Octets.{bits_of}
use Rattle.sem_bits.proofs.Numbers.{length-enc}

pub length-bits_of : (octets : List ℕ) → length (bits_of octets) ≡ 8 * length octets
length-bits_of [] = refl
length-bits_of (o ∷ os) = simp length-append (omega (arith, length-enc 8 o, length-bits_of os))

pub bits_of-append : (a b : List ℕ) → bits_of (a ++ b) ≡ bits_of a ++ bits_of b
bits_of-append a b = flat_map-append (λ x. enc 8 x) a b

pub bits_of-push : (octets : List ℕ) (o : ℕ) → bits_of (octets ++ o ∷ []) ≡ bits_of octets ++ enc 8 o
bits_of-push octets o = bits_of-append octets (o ∷ []) ∙ ap (λ b. bits_of octets ++ b) (append-nil (enc 8 o))

pub bits_of-more : (octets : List ℕ) (i : ℕ) → i < length octets → bits_of (take (i + 1) octets) ≡ bits_of (take i octets) ++ enc 8 (get_or octets i 0)
bits_of-more octets i h = ap bits_of (take_more octets i 0 h) ∙ bits_of-push (take i octets) (get_or octets i 0)

pub IsBytes-nil : IsBytes []
IsBytes-nil i = omega arith

pub IsBytes-append : (a b : List ℕ) → IsBytes a → IsBytes b → IsBytes (a ++ b)
IsBytes-append [] b f g i = g i
IsBytes-append (x ∷ a) b f g zero = f 0
IsBytes-append (x ∷ a) b f g (suc i) = IsBytes-append a b (λ j. f (suc j)) g i

pub IsBytes-push : (octets : List ℕ) (o : ℕ) → IsBytes octets → o < 256 → IsBytes (octets ++ o ∷ [])
IsBytes-push octets o fit small = IsBytes-append octets (o ∷ []) fit one
  where
    one : IsBytes (o ∷ [])
    one zero = small
    one (suc k) = omega arith
