-- The octets of a packet that is not whole yet, and the bits that are kept of them.
use Rattle.std.proofs.Common.{◌≡◌, ◌∙◌, refl, sym, ap, ℕ, suc, ◌+◌, ◌*◌, ◌<◌, ◌≤◌, ◌^◌, Bool, List, [], ◌∷◌, ◌++◌, length, drop, arith}
use Rattle.hex.specs.Hex.{IsBytes}
use Rattle.sem_bits.specs.Number.{enc}
use Rattle.sem_bits.specs.Octets.{bits_of}
use Rattle.sem_bits.proofs.Octets.{length-bits_of, bits_of-push, IsBytes-push}

pub bytes_after : (octets : List ℕ) → IsBytes octets → IsBytes (drop 1 octets)
bytes_after [] fit = fit
bytes_after (o ∷ octets) fit = λ i. fit (suc i)

pub few_bits : (octets : List ℕ) (bits : List Bool) → bits ≡ bits_of (drop 1 octets) → length octets ≤ 2 ^ 20 → length bits + 8 < 2 ^ 31
few_bits [] bits is few = let none : length bits ≡ 0 = ap length is in omega arith
few_bits (o ∷ octets) bits is few = let count : length bits ≡ 8 * length octets = ap length is ∙ length-bits_of octets in omega arith

-- the first octet is the flow's
pub first_kept : (octets grown : List ℕ) (octet : ℕ) (bits : List Bool) → octets ≡ [] → grown ≡ octets ++ octet ∷ [] → bits ≡ bits_of (drop 1 octets) → bits ≡ bits_of (drop 1 grown)
first_kept octets grown octet bits none grows is =
    let one : grown ≡ octet ∷ [] = grows ∙ ap (λ o. o ++ octet ∷ []) none in
    is ∙ ap (λ o. bits_of (drop 1 o)) none ∙ sym (ap (λ o. bits_of (drop 1 o)) one)

-- a further octet adds its bits
pub next_kept : (octets grown : List ℕ) (octet : ℕ) (bits more : List Bool) → (octets ≡ [] → ⊥) → grown ≡ octets ++ octet ∷ [] → bits ≡ bits_of (drop 1 octets) → more ≡ bits ++ enc 8 octet → more ≡ bits_of (drop 1 grown)
next_kept [] grown octet bits more some grows is adds = absurd (some refl)
next_kept (o ∷ octets) grown octet bits more some grows is adds =
    adds ∙ ap (λ b. b ++ enc 8 octet) is ∙ sym (bits_of-push octets octet) ∙ sym (ap (λ g. bits_of (drop 1 g)) grows)

pub grown_bytes : (octets grown : List ℕ) (octet : ℕ) → grown ≡ octets ++ octet ∷ [] → IsBytes octets → octet < 256 → IsBytes grown
grown_bytes octets grown octet grows fit small = rw grows (IsBytes-push octets octet fit small)
