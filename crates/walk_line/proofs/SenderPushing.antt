-- Octets that are added one by one.
use Rattle.std.proofs.Common.{◌≡◌, ◌∙◌, refl, sym, ap, subst, ℕ, ◌+◌, ◌*◌, ◌-◌, ◌/◌, ◌^◌, ◌<◌, ◌≤◌, Bool, false, List, [], ◌∷◌, ◌++◌, length, take, drop, replicate, arith, append_assoc, length-append}
use Rattle.std.proofs.Math.Seq.{take-add, take-append-add}
use Rattle.std.proofs.lemmas.List.{append-nil, length-drop, length-replicate, length-take-le, take-replicate}
use Rattle.hex.specs.Hex.{IsBytes}
use Rattle.sem_bits.specs.Number.{num, enc}
use Rattle.sem_bits.specs.Octets.{bits_of, Holds}
use Rattle.sem_bits.proofs.Numbers.{enc-num, num-below}
use Rattle.sem_bits.proofs.Octets.{bits_of-push, IsBytes-nil, IsBytes-push}

-- the bits, and what the last octet may be filled with
abbrev filled_up : List Bool → List Bool
filled_up bits = bits ++ replicate 8 false

-- so many octets of the bits were added
pub record Pushed (bits : List Bool) (place : ℕ) (before here : List ℕ) : Type 0 where
  pub octets : List ℕ
  pub fit : IsBytes octets
  pub spelled : bits_of octets ≡ take (8 * place) (filled_up bits)
  pub here_is : here ≡ before ++ octets

pub none_pushed : (bits : List Bool) (before : List ℕ) → Pushed bits 0 before before
none_pushed bits before = record { octets = []; fit = IsBytes-nil; spelled = refl; here_is = sym (append-nil before) }

next_octet : (all : List Bool) (place octet : ℕ) → 8 * place + 8 ≤ length all → octet ≡ num (take 8 (drop (8 * place) all)) → (enc 8 octet ≡ take 8 (drop (8 * place) all)) × (octet < 256)
next_octet all place octet inside is =
    let part : List Bool = take 8 (drop (8 * place) all) in
    let count : length part ≡ 8 = length-take-le 8 (drop (8 * place) all) (omega (arith, length-drop (8 * place) all)) in
    let spelled : enc 8 (num part) ≡ part = ap (λ n. enc n (num part)) (sym count) ∙ enc-num part in
    let small : num part < 2 ^ 8 = subst (λ n. num part < 2 ^ n) count (num-below part) in
    (ap (enc 8) is ∙ spelled, subst (λ n. n < 256) (sym is) small)

pub one_pushed : (bits : List Bool) (place octet : ℕ) (before here after : List ℕ) → 8 * place < length bits → octet ≡ num (take 8 (drop (8 * place) (bits ++ replicate 8 false))) → Pushed bits place before here → after ≡ here ++ octet ∷ [] → Pushed bits (place + 1) before after
one_pushed bits place octet before here after inside is so_far more =
    let all : List Bool = filled_up bits in
    let count : length all ≡ length bits + 8 = length-append bits (replicate 8 false) ∙ ap (λ n. length bits + n) (length-replicate 8 false) in
    let found = next_octet all place octet (omega arith) is in
    let eight : 8 * (place + 1) ≡ 8 * place + 8 = omega arith in
    record {
      octets = so_far.octets ++ octet ∷ [];
      fit = IsBytes-push so_far.octets octet so_far.fit found.1;
      spelled = bits_of-push so_far.octets octet ∙ ap (λ b. b ++ enc 8 octet) so_far.spelled ∙ ap (λ b. take (8 * place) all ++ b) found.0 ∙ sym (take-add (8 * place) 8 all) ∙ ap (λ n. take n all) (sym eight);
      here_is = more ∙ ap (λ h. h ++ octet ∷ []) so_far.here_is ∙ append_assoc before so_far.octets (octet ∷ []);
    }

pub all_pushed : (bits : List Bool) (place : ℕ) (before here : List ℕ) → place ≡ (length bits + 7) / 8 → Pushed bits place before here → (octets : List ℕ) × Holds octets bits × (here ≡ before ++ octets)
all_pushed bits place before here whole so_far =
    let padding : ℕ = 8 * place - length bits in
    let few : padding < 8 = omega arith in
    let count : 8 * place ≡ length bits + padding = omega arith in
    let front : take (8 * place) (filled_up bits) ≡ bits ++ replicate padding false =
    ap (λ n. take n (filled_up bits)) count ∙ take-append-add bits (replicate 8 false) padding ∙ ap (λ b. bits ++ b) (take-replicate padding 8 false (omega arith)) in
    (so_far.octets, record { octets_fit = so_far.fit; padding = padding; few = few; filled = so_far.spelled ∙ front }, so_far.here_is)
