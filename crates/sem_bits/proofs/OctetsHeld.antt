use Rattle.std.proofs.Common.{◌≡◌, ℕ, suc, ◌+◌, ◌*◌, ◌<◌, Bool, false, List, [], ◌∷◌, ◌++◌, length, replicate, refl, sym, ap, ◌∙◌, arith, length-append}
use Rattle.std.proofs.lemmas.List.{length-replicate}
use Rattle.hex.specs.Hex.{IsBytes}
use Rattle.sem_bits.specs.Number.{num, enc}
use Rattle.sem_bits.specs.Octets.{bits_of, Holds}
use Rattle.sem_bits.proofs.Numbers.{num-enc, length-enc}
use Rattle.sem_bits.proofs.Octets.{length-bits_of}

-- two fronts of one length of one list, and what follows them
pub split_same : {A : Type 0} (a b x y : List A) → length a ≡ length b → a ++ x ≡ b ++ y → (a ≡ b) × (x ≡ y)
split_same [] [] x y l e = (refl, e)
split_same [] (d ∷ b) x y l e = absurd (omega arith)
split_same (c ∷ a) [] x y l e = absurd (omega arith)
split_same (c ∷ a) (d ∷ b) x y l e =
    let more : a ++ x ≡ b ++ y = cc in
    let rest = split_same a b x y (omega arith) more in
    let first : c ≡ d = cc in
    ((λ i. first i ∷ rest.0 i), rest.1)

-- octets hold one list of bits of a count
pub bits_same : (o : List ℕ) (a b : List Bool) → Holds o a → Holds o b → length a ≡ length b → a ≡ b
bits_same o a b h k l = (split_same a b (replicate h.padding false) (replicate k.padding false) l (sym h.filled ∙ k.filled)).0

enc_same : (x y : ℕ) → x < 256 → y < 256 → enc 8 x ≡ enc 8 y → x ≡ y
enc_same x y p q e = sym (num-enc 8 x p) ∙ ap num e ∙ num-enc 8 y q

bits_of_same : (o p : List ℕ) → IsBytes o → IsBytes p → length o ≡ length p → bits_of o ≡ bits_of p → o ≡ p
bits_of_same [] [] f g l e = refl
bits_of_same [] (y ∷ p) f g l e = absurd (omega arith)
bits_of_same (x ∷ o) [] f g l e = absurd (omega arith)
bits_of_same (x ∷ o) (y ∷ p) f g l e =
    let parts = split_same (enc 8 x) (enc 8 y) (bits_of o) (bits_of p) (length-enc 8 x ∙ sym (length-enc 8 y)) e in
    let rest = bits_of_same o p (λ i. f (suc i)) (λ i. g (suc i)) (omega arith) parts.1 in
    let first = enc_same x y (f 0) (g 0) parts.0 in
    (λ i. first i ∷ rest i)

count_held : (o : List ℕ) (b : List Bool) (h : Holds o b) → 8 * length o ≡ length b + h.padding
count_held o b h = sym (length-bits_of o) ∙ ap length h.filled ∙ length-append b (replicate h.padding false) ∙ ap (λ n. length b + n) (length-replicate h.padding false)

-- bits are held by one list of octets
pub octets_same : (o p : List ℕ) (b : List Bool) → Holds o b → Holds p b → o ≡ p
octets_same o p b h k =
    let m = count_held o b h in
    let n = count_held p b k in
    let few = h.few in
    let less = k.few in
    let same : h.padding ≡ k.padding = omega arith in
    bits_of_same o p h.octets_fit k.octets_fit (omega arith) (h.filled ∙ ap (λ c. b ++ replicate c false) same ∙ sym k.filled)
