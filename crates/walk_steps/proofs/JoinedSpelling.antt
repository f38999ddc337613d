-- The number of joined bits.
use Rattle.std.proofs.Common.{◌≡◌, refl, sym, ◌∙◌, ap, subst, ℕ, ◌+◌, ◌*◌, ◌^◌, ◌<◌, ◌≤◌, Bool, true, List, [], ◌∷◌, ◌++◌, length, arith, length-append, append_assoc}
use Rattle.std.specs.Prelude.{Some, ◌&&◌}
use Rattle.std.proofs.lemmas.Option.{same_Some}
use Rattle.std.proofs.Math.Pow.{pow_mono}
use Rattle.sem_bits.specs.Number.{num, enc}
use Rattle.sem_bits.proofs.Numbers.{length-enc, num-nil, num-enc, num-below, num_join}
use Rattle.sem_expr.specs.declared.expr.Side.{Side}
use Rattle.cert_rules.specs.declared.slots.Learnt.{Learnt}
use Rattle.cert_rules.specs.declared.slots.Learnt.TheVariants.{Nothing, Length, Whole}
use Rattle.cert_rules.specs.declared.slots.Slot.{Slot}
use Rattle.cert_rules.specs.Slots.{has_bits, learnt_at, bits_of}
use Rattle.walk_steps.specs.Sides.{whole_of}
use Rattle.walk_steps.specs.Joined.{joined_bits, are_whole}

-- the number of two parts fits in 64 bits where they have so many together
pub room : (v c n x : ℕ) → v < 2 ^ c → x < 2 ^ n → c + n ≤ 64 → v * 2 ^ n + x < 2 ^ 64
room v c n x below_c below_n small =
    let joined = enc c v ++ enc n x in
    let is : num joined ≡ v * 2 ^ n + x = num_join (enc c v) (enc n x) ∙ (λ i. num-enc c v below_c i * 2 ^ length-enc n x i + num-enc n x below_n i) in
    let as_long : length joined ≡ c + n = length-append (enc c v) (enc n x) ∙ (λ i. length-enc c v i + length-enc n x i) in
    let below : v * 2 ^ n + x < 2 ^ (c + n) = subst (λ z. z < 2 ^ (c + n)) is (subst (λ z. num joined < 2 ^ z) as_long (num-below joined)) in
    let more : 2 ^ (c + n) ≤ 2 ^ 64 = pow_mono small in
    omega (arith, below, more)

-- the number spells the joined sides before those that are left, and the count is how many bits they are
pub record Spelt (slots : List Slot) (side : Side) (fields left : List ℕ) (number count : ℕ) : Type 0 where
  pub before : List Bool
  pub number_is : number ≡ num before
  pub count_is : count ≡ length before
  pub narrow : count ≤ 64
  pub joined_is : before ++ joined_bits slots side left ≡ joined_bits slots side fields
  pub whole_is : are_whole slots side left ≡ are_whole slots side fields

pub spelt_start : (slots : List Slot) (side : Side) (fields : List ℕ) → Spelt slots side fields fields 0 0
spelt_start slots side fields = record { before = []; number_is = sym num-nil; count_is = refl; narrow = omega arith; joined_is = refl; whole_is = refl }

pub spelt_below : (slots : List Slot) (side : Side) (fields left : List ℕ) (number count : ℕ) → Spelt slots side fields left number count → number < 2 ^ count
spelt_below slots side fields left number count s = subst (λ z. number < 2 ^ z) (sym s.count_is) (subst (λ z. z < 2 ^ length s.before) (sym s.number_is) (num-below s.before))

known_whole : (l : Learnt) (bits : List Bool) → whole_of l ≡ Some bits → (bits_of l ≡ bits) × (has_bits l ≡ true)
known_whole Nothing bits e = absurd (cc)
known_whole (Length n) bits e = absurd (cc)
known_whole (Whole known) bits e = (same_Some known bits e, refl)

pub spelt_next : (slots : List Slot) (side : Side) (fields left more : List ℕ) (i number count next : ℕ) (bits : List Bool) → left ≡ i ∷ more → whole_of (learnt_at slots i side) ≡ Some bits →
    count + length bits ≤ 64 → next ≡ number * 2 ^ length bits + num bits → Spelt slots side fields left number count → Spelt slots side fields more next (count + length bits)
spelt_next slots side fields left more i number count next bits left_is known small is s =
    let here = known_whole (learnt_at slots i side) bits known in
    record {
      before = s.before ++ bits;
      number_is = is ∙ ((λ j. s.number_is j * 2 ^ length bits + num bits) ∙ sym (num_join s.before bits));
      count_is = (λ j. s.count_is j + length bits) ∙ sym (length-append s.before bits);
      narrow = small;
      joined_is = append_assoc s.before bits (joined_bits slots side more) ∙ ((λ j. s.before ++ (sym here.0 j ++ joined_bits slots side more)) ∙ (ap (λ xs. s.before ++ joined_bits slots side xs) (sym left_is) ∙ s.joined_is));
      whole_is = (λ j. sym here.1 j && are_whole slots side more) ∙ (ap (are_whole slots side) (sym left_is) ∙ s.whole_is);
    }
