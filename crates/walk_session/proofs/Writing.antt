-- Octets that are written one by one to the start of a room.
use Rattle.std.proofs.Common.{◌≡◌, ◌∙◌, refl, sym, ap, subst, ℕ, suc, ◌+◌, ◌*◌, ◌-◌, ◌/◌, ◌^◌, ◌<◌, ◌≤◌, Bool, true, false, List, [], ◌∷◌, ◌++◌, length, set, take, drop, replicate, arith, append_assoc, length-append}
use Rattle.std.proofs.Math.Seq.{take-add, take-append-add}
use Rattle.std.proofs.lemmas.List.{drop-drop, drop_at, take_at, set_split, length-drop, length-replicate, length-take-le, take-replicate}
use Rattle.hex.specs.Hex.{IsBytes}
use Rattle.sem_bits.specs.Number.{num, enc}
use Rattle.sem_bits.specs.Octets.{bits_of}
use Rattle.sem_bits.proofs.Numbers.{enc-num, num-below}
use Rattle.sem_bits.proofs.Octets.{bits_of-push, IsBytes-nil, IsBytes-push}
use Rattle.walk_session.specs.Octets.{IsWritten}

-- the bits, and what the last octet may be filled with
abbrev filled_up : List Bool → List Bool
filled_up bits = bits ++ replicate 8 false

-- so many octets of the bits were written
pub record Written (bits : List Bool) (place : ℕ) (old here : List ℕ) : Type 0 where
  pub octets : List ℕ
  pub count : length octets ≡ place
  pub fit : IsBytes octets
  pub spelled : bits_of octets ≡ take (8 * place) (filled_up bits)
  pub here_is : here ≡ octets ++ drop place old

pub none_written : (bits : List Bool) (old : List ℕ) → Written bits 0 old old
none_written bits old = record { octets = []; count = refl; fit = IsBytes-nil; spelled = refl; here_is = refl }

next_octet : (all : List Bool) (place octet : ℕ) → 8 * place + 8 ≤ length all → octet ≡ num (take 8 (drop (8 * place) all)) → (enc 8 octet ≡ take 8 (drop (8 * place) all)) × (octet < 256)
next_octet all place octet inside is =
    let part : List Bool = take 8 (drop (8 * place) all) in
    let count : length part ≡ 8 = length-take-le 8 (drop (8 * place) all) (omega (arith, length-drop (8 * place) all)) in
    let spelled : enc 8 (num part) ≡ part = ap (λ n. enc n (num part)) (sym count) ∙ enc-num part in
    let small : num part < 2 ^ 8 = subst (λ n. num part < 2 ^ n) count (num-below part) in
    (ap (enc 8) is ∙ spelled, subst (λ n. n < 256) (sym is) small)

-- an element of a list that begins with known ones is set right after them
set_after : (front rest : List ℕ) (place x : ℕ) → length front ≡ place → place < length (front ++ rest) → set (front ++ rest) place x ≡ (front ++ x ∷ []) ++ drop 1 rest
set_after front rest place x count within =
    let more : suc place ≡ place + 1 = omega arith in
    let after : drop (suc place) (front ++ rest) ≡ drop 1 rest = ap (λ n. drop n (front ++ rest)) more ∙ sym (drop-drop 1 place (front ++ rest)) ∙ ap (drop 1) (drop_at front rest place count) in
    set_split (front ++ rest) place x within ∙ ap (λ f. f ++ x ∷ drop (suc place) (front ++ rest)) (take_at front rest place count) ∙ ap (λ r. front ++ x ∷ r) after ∙ sym (append_assoc front (x ∷ []) (drop 1 rest))

pub one_written : (bits : List Bool) (place octet : ℕ) (old here : List ℕ) → 8 * place < length bits → place < length old → octet ≡ num (take 8 (drop (8 * place) (bits ++ replicate 8 false))) →
    Written bits place old here → Written bits (place + 1) old (set here place octet)
one_written bits place octet old here inside room is so_far =
    let all : List Bool = filled_up bits in
    let count : length all ≡ length bits + 8 = length-append bits (replicate 8 false) ∙ ap (λ n. length bits + n) (length-replicate 8 false) in
    let found = next_octet all place octet (omega arith) is in
    let eight : 8 * (place + 1) ≡ 8 * place + 8 = omega arith in
    let within : place < length (so_far.octets ++ drop place old) = omega (arith, length-append so_far.octets (drop place old), length-drop place old, so_far.count) in
    let rest : drop 1 (drop place old) ≡ drop (place + 1) old = drop-drop 1 place old in
    record {
      octets = so_far.octets ++ octet ∷ [];
      count = length-append so_far.octets (octet ∷ []) ∙ ap (λ n. n + 1) so_far.count;
      fit = IsBytes-push so_far.octets octet so_far.fit found.1;
      spelled = bits_of-push so_far.octets octet ∙ ap (λ b. b ++ enc 8 octet) so_far.spelled ∙ ap (λ b. take (8 * place) all ++ b) found.0 ∙ sym (take-add (8 * place) 8 all) ∙ ap (λ n. take n all) (sym eight);
      here_is = ap (λ h. set h place octet) so_far.here_is ∙ set_after so_far.octets (drop place old) place octet so_far.count within ∙ ap (λ r. (so_far.octets ++ octet ∷ []) ++ r) rest;
    }

pub all_written : (bits : List Bool) (place : ℕ) (old here : List ℕ) → place ≡ (length bits + 7) / 8 → place ≤ length old → Written bits place old here → IsWritten bits old here
all_written bits place old here whole room so_far =
    let padding : ℕ = 8 * place - length bits in
    let few : padding < 8 = omega arith in
    let count : 8 * place ≡ length bits + padding = omega arith in
    let front : take (8 * place) (filled_up bits) ≡ bits ++ replicate padding false =
    ap (λ n. take n (filled_up bits)) count ∙ take-append-add bits (replicate 8 false) padding ∙ ap (λ b. bits ++ b) (take-replicate padding 8 false (omega arith)) in
    record {
      octets = so_far.octets;
      holds = record { octets_fit = so_far.fit; padding = padding; few = few; filled = so_far.spelled ∙ front };
      put = record { within = subst (λ n. n ≤ length old) (sym so_far.count) room; new_is = so_far.here_is ∙ ap (λ n. so_far.octets ++ drop n old) (sym so_far.count) };
    }

-- where a test of the room fails
pub no_room : (n room : ℕ) → (n ≤ room → false ≡ true) → room < n
no_room n room f =
    let none : n ≤ room → ⊥ = λ h. (let e : false ≡ true = f h in cc) in
    omega (arith, none)
