use Rattle.std.proofs.Common.{◌≡◌, ℕ, ◌+◌, ◌%◌, ◌^◌, ◌<◌, ◌≤◌, Bool, List, length, sym, ap, ◌∙◌, arith}
use Rattle.std.specs.Prelude.{ℤ, pos, ◌+ℤ◌, ◌-ℤ◌}
use Rattle.std.specs.Int.{int_rem_euclid}
use Rattle.std.proofs.lemmas.Int.{ints}
use Rattle.std.proofs.lemmas.Nat.{pow_pos}
use Rattle.std.proofs.Math.Pow.{pow_mono}
use Rattle.sem_bits.specs.Number.{num}
use Rattle.sem_bits.proofs.Numbers.{num-below}
use Rattle.sem_library.specs.Methods.{Spells, IsLowPart, LsbHolds, lsb_start}
use Rattle.sem_library.proofs.LsbModuli.{rem_more, rem_fits, ahead, ahead-below, ahead-ends, ahead-only, distance_of, distance-reaches, distance-only, mod_again}

pub start_below : (offset : ℤ) (r : List Bool) → lsb_start offset r < 2 ^ length r
start_below offset r = rem_fits (pos (num r) -ℤ offset) (2 ^ length r) (pow_pos (length r))

pub same_pos : (a b : ℕ) → pos a ≡ pos b → a ≡ b
same_pos a b e = omega (arith, ints)

-- the number at a place of the interval
at_number : (k offset : ℤ) (r u c : List Bool) (s : LsbHolds k offset r u c) → num u ≡ (lsb_start offset r + s.place) % 2 ^ length r
at_number k offset r u c s =
    same_pos (num u) ((lsb_start offset r + s.place) % 2 ^ length r)
    (s.at_place ∙ ap (λ n. int_rem_euclid (pos (num r) -ℤ offset +ℤ pos s.place) (pos (2 ^ n))) s.as_long ∙ rem_more (pos (num r) -ℤ offset) s.place (2 ^ length r) (pow_pos (length r)))

number_at : (offset : ℤ) (r u : List Bool) (place : ℕ) → length u ≡ length r → num u ≡ (lsb_start offset r + place) % 2 ^ length r
    → pos (num u) ≡ int_rem_euclid (pos (num r) -ℤ offset +ℤ pos place) (pos (2 ^ length u))
number_at offset r u place l e =
    ap pos e ∙ sym (rem_more (pos (num r) -ℤ offset) place (2 ^ length r) (pow_pos (length r))) ∙ ap (λ n. int_rem_euclid (pos (num r) -ℤ offset +ℤ pos place) (pos (2 ^ n))) (sym l)

module _ (k offset : ℤ) (r c : List Bool) (start low value : ℕ) (short : length r ≤ 64) (as_said : pos (length c) ≡ k) (within : length c ≤ length r)
    (is_start : start ≡ lsb_start offset r) (is_low : low ≡ num c) (is_value : value ≡ (start + ahead (2 ^ length c) start low) % 2 ^ length r) where
  low_fits : low < 2 ^ length c
  low_fits = omega (arith, num-below c, is_low)

  -- the number that was found is in the interval and ends in c
  pub up_to : (u : List Bool) → Spells (pos (length r)) (pos value) u → LsbHolds k offset r u c
  up_to u s =
      let l : length u ≡ length r = same_pos (length u) (length r) s.length_is in
      let e : num u ≡ value = same_pos (num u) value s.number_is in
      let n : num u ≡ (lsb_start offset r + ahead (2 ^ length c) start low) % 2 ^ length r = e ∙ is_value ∙ ap (λ x. (x + ahead (2 ^ length c) start low) % 2 ^ length r) is_start in
      record {
        as_long = l;
        short = s.short;
        bits_are = as_said;
        within = omega arith;
        place = ahead (2 ^ length c) start low;
        in_interval = ahead-below (2 ^ length c) start low (pow_pos (length c));
        at_place = number_at offset r u (ahead (2 ^ length c) start low) l n;
        low_part = sym (ap (λ x. x % 2 ^ length c) (e ∙ is_value) ∙ mod_again (start + ahead (2 ^ length c) start low) (length c) (length r) within ∙ ahead-ends (2 ^ length c) start low low_fits ∙ is_low);
      }

  -- and no other is
  pub up_from : (u : List Bool) → LsbHolds k offset r u c → Spells (pos (length r)) (pos value) u
  up_from u s =
      let n : num u ≡ (start + s.place) % 2 ^ length r = at_number k offset r u c s ∙ ap (λ x. (x + s.place) % 2 ^ length r) (sym is_start) in
      let ends : (start + s.place) % 2 ^ length c ≡ low = sym (mod_again (start + s.place) (length c) (length r) within) ∙ ap (λ x. x % 2 ^ length c) (sym n) ∙ sym s.low_part ∙ sym is_low in
      let only : s.place ≡ ahead (2 ^ length c) start low = ahead-only (2 ^ length c) start low s.place low_fits s.in_interval ends in
      record {
        length_is = ap pos s.as_long;
        number_is = ap pos (n ∙ ap (λ x. (start + x) % 2 ^ length r) only ∙ sym is_value);
        short = s.short;
      }

module _ (k offset : ℤ) (r u : List Bool) (start value count distance : ℕ) (as_long : length u ≡ length r) (short : length r ≤ 64) (is_count : k ≡ pos count)
    (is_start : start ≡ lsb_start offset r) (is_value : value ≡ num u) (is_distance : distance ≡ distance_of (2 ^ length u) start value) where
  -- a number of the interval is as far ahead as its place
  place_is : (c : List Bool) (s : LsbHolds k offset r u c) → s.place ≡ distance
  place_is c s =
      let most : 2 ^ length c ≤ 2 ^ length u = pow_mono s.within in
      let p : 2 ^ length u ≡ 2 ^ length r = ap (λ n. 2 ^ n) as_long in
      let n : value ≡ (start + s.place) % 2 ^ length u = is_value ∙ at_number k offset r u c s ∙ (λ i. (sym is_start i + s.place) % 2 ^ sym as_long i) in
      distance-only (2 ^ length u) start value s.place (omega (arith, start_below offset r)) (omega (arith, s.in_interval)) n ∙ sym is_distance

  -- so where it is too far there is none
  pub down_none : 2 ^ count ≤ distance → (c : List Bool) → LsbHolds k offset r u c → ⊥
  down_none far c s =
      let l : length c ≡ count = same_pos (length c) count (s.bits_are ∙ is_count) in
      let p : 2 ^ length c ≡ 2 ^ count = ap (λ n. 2 ^ n) l in
      omega (arith, place_is c s, s.in_interval)

  -- and else its last bits are the solution
  pub down_to : distance < 2 ^ count → count ≤ length u → (c : List Bool) → IsLowPart k value c → LsbHolds k offset r u c
  down_to near within c s =
      let l : length c ≡ count = same_pos (length c) count (s.length_is ∙ is_count) in
      let p : 2 ^ length c ≡ 2 ^ count = ap (λ n. 2 ^ n) l in
      let q : 2 ^ length u ≡ 2 ^ length r = ap (λ n. 2 ^ n) as_long in
      let reached : (start + distance) % 2 ^ length u ≡ value =
      ap (λ d. (start + d) % 2 ^ length u) is_distance ∙ distance-reaches (2 ^ length u) start value (omega (arith, start_below offset r)) (omega (arith, num-below u)) in
      record {
        as_long = as_long;
        short = omega arith;
        bits_are = s.length_is;
        within = omega arith;
        place = distance;
        in_interval = omega arith;
        at_place = number_at offset r u distance as_long (sym is_value ∙ sym reached ∙ (λ i. (is_start i + distance) % 2 ^ as_long i));
        low_part = s.number_is ∙ ap (λ x. x % 2 ^ length c) is_value;
      }

  pub down_from : (c : List Bool) → LsbHolds k offset r u c → IsLowPart k value c
  down_from c s = record { length_is = s.bits_are; number_is = s.low_part ∙ ap (λ x. x % 2 ^ length c) (sym is_value); short = omega (arith, s.within, s.short) }
