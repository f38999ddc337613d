use Rattle.std.proofs.Common.{◌↔◌, ◌≡◌, ℕ, ◌%◌, ◌^◌, ◌<◌, ◌≤◌, Bool, List, [], length, Option, Some, None, sym, ap, ◌∙◌, arith}
use Rattle.std.specs.Prelude.{ℤ, pos, IfOk, Result}
use Rattle.std.specs.Int.{FitsUnsigned, w64}
use mir.Syntax.{w128}
use mir.Val.{to_z, of_z}
use Rattle.std.specs.Int.RustNames.{unsigned_abs, FitsSigned}
use Rattle.std.specs.Option.{SomeIff}
use Rattle.std.proofs.lemmas.Int.{ints, to_z-of_z}
use Rattle.std.proofs.lemmas.Result.{IfOk-weaker}
use Rattle.std.proofs.Math.Pow.{pow_mono}
use Rattle.sem_bits.specs.Number.{num, enc}
use Rattle.sem_bits.proofs.Numbers.{length-enc, num-enc, enc-num, num-below}
use Rattle.sem_library.specs.Methods.{Spells, IsLowPart, IsOnly}

-- bits of one length and one number are the same
pub same_bits : (x y : List Bool) → length x ≡ length y → num x ≡ num y → x ≡ y
same_bits x y e n = sym (enc-num x) ∙ (λ i. enc (e i) (n i)) ∙ enc-num y

-- the only solution of one fact is that of another that says the same
pub only_along : (P Q : List Bool → Type 0) (o : Option (List Bool)) → ((x : List Bool) → P x → Q x) → ((x : List Bool) → Q x → P x) → IsOnly P o → IsOnly Q o
only_along P Q None to from h = λ x q. h x (from x q)
only_along P Q (Some b) to from h = (to b h.0, λ y q. h.1 y (from y q))

num_below_length : (x : List Bool) (n : ℕ) → length x ≡ n → num x < 2 ^ n
num_below_length x n e = let p : 2 ^ length x ≡ 2 ^ n = ap (λ k. 2 ^ k) e in omega (arith, num-below x)

-- what `Bits::from_value` gives is the only spelling
pub spelled_only : (n v : ℕ) (o : Option (List Bool)) → SomeIff o ((n ≤ 64) × (v < 2 ^ n)) (enc n v) → IsOnly (Spells (pos n) (pos v)) o
spelled_only n v None h = λ x s.
    let l : length x ≡ n = omega (arith, ints, s.length_is) in
    let e : num x ≡ v = omega (arith, ints, s.number_is) in
    h (omega (arith, s.short), omega (arith, num_below_length x n l))
spelled_only n v (Some b) h = (
  record {
    length_is = ap (λ x. pos (length x)) h.1 ∙ ap pos (length-enc n v);
    number_is = ap (λ x. pos (num x)) h.1 ∙ ap pos (num-enc n v h.0.1);
    short = omega (arith, ap length h.1, length-enc n v, h.0.0);
  },
  λ y s. same_bits y b
      (omega (arith, ints, s.length_is, ap length h.1, length-enc n v))
      (omega (arith, ints, s.number_is, ap num h.1, num-enc n v h.0.1)),
)

-- the same of a result
pub spelled_only_ok : {E : Type 0} (P : List Bool → Type 0) (n v : ℕ) (r : Result (Option (List Bool)) E)
    → ((x : List Bool) → Spells (pos n) (pos v) x → P x) → ((x : List Bool) → P x → Spells (pos n) (pos v) x)
    → IfOk r (λ o. SomeIff o ((n ≤ 64) × (v < 2 ^ n)) (enc n v)) → IfOk r (IsOnly P)
spelled_only_ok P n v r to from h =
    IfOk-weaker r (λ o. SomeIff o ((n ≤ 64) × (v < 2 ^ n)) (enc n v)) (IsOnly P) (λ o k. only_along (Spells (pos n) (pos v)) P o to from (spelled_only n v o k)) h

-- numbers in and out of 64 bits
pub from_unsigned : (z : ℤ) (n : ℕ) → FitsUnsigned w64 z × (n ≡ unsigned_abs z) → z ≡ pos n
from_unsigned z n h = omega (arith, ints, h.0.0, h.1)

-- the same of a number that was passed in 128 bits
pub from_passed : (z : ℤ) (n : ℕ) → FitsSigned w128 z → FitsUnsigned w64 (to_z w128 (of_z w128 z)) × (n ≡ unsigned_abs (to_z w128 (of_z w128 z))) → z ≡ pos n
from_passed z n f h = let e = to_z-of_z w128 z f in from_unsigned z n (rw e at h)

pub not_passed : (z : ℤ) → FitsSigned w128 z → (FitsUnsigned w64 (to_z w128 (of_z w128 z)) → ⊥) → FitsUnsigned w64 z → ⊥
not_passed z f h u = let e = to_z-of_z w128 z f in h (rw e u)

pub fits_unsigned : (n : ℕ) → n < 2 ^ 64 → FitsUnsigned w64 (pos n)
fits_unsigned n h = (omega (arith, ints), omega (arith, ints))

pub number_fits : (len val : ℤ) (x : List Bool) → Spells len val x → FitsUnsigned w64 val
number_fits len val x s =
    let p : 2 ^ length x ≤ 2 ^ 64 = pow_mono s.short in
    let b : num x < 2 ^ 64 = omega (arith, num-below x) in
    (omega (arith, ints, s.number_is), omega (arith, ints, s.number_is))

-- the last bits of a number are the spelling of its remainder
pub low_part_spelled : (n v : ℕ) (x : List Bool) → Spells (pos n) (pos (v % 2 ^ n)) x → IsLowPart (pos n) v x
low_part_spelled n v x s =
    let l : length x ≡ n = omega (arith, ints, s.length_is) in
    record { length_is = s.length_is; number_is = (let e : num x ≡ v % 2 ^ n = omega (arith, ints, s.number_is) in e) ∙ ap (λ k. v % 2 ^ k) (sym l); short = s.short }

pub low_part_spells : (n v : ℕ) (x : List Bool) → IsLowPart (pos n) v x → Spells (pos n) (pos (v % 2 ^ n)) x
low_part_spells n v x s =
    let l : length x ≡ n = omega (arith, ints, s.length_is) in
    record { length_is = s.length_is; number_is = ap pos (s.number_is ∙ ap (λ k. v % 2 ^ k) l); short = s.short }

pub num_small : (x : List Bool) → length x ≤ 64 → num x < 2 ^ 64
num_small x h = let p : 2 ^ length x ≤ 2 ^ 64 = pow_mono h in omega (arith, num-below x)

-- a count that a passed number equals
pub count_passed : (n : ℕ) (z : ℤ) → FitsSigned w128 z → n < 2 ^ 64 → n ≡ of_z w128 z → pos n ≡ z
count_passed n z f h e = omega (arith, ints)

-- a number as it is passed in 128 bits
abbrev pub passed : ℤ → ℤ
passed z = to_z w128 (of_z w128 z)

-- what is said of four numbers that were passed is said of the numbers
pub passed_four : (P : ℤ → ℤ → ℤ → ℤ → Type 0) (x y z w : ℤ) → FitsSigned w128 x → FitsSigned w128 y → FitsSigned w128 z → FitsSigned w128 w
    → P (passed x) (passed y) (passed z) (passed w) → P x y z w
passed_four P x y z w f g h k p =
    let a = to_z-of_z w128 x f in
    let b = to_z-of_z w128 y g in
    let d = to_z-of_z w128 z h in
    let e = to_z-of_z w128 w k in
    coe 0 1 (i. P (a i) (b i) (d i) (e i)) p

-- the checksum is the only compressed side
pub crc_only : {E : Type 0} (P : List Bool → Type 0) (u : List Bool) (n v : ℕ) (r : Result (Option (List Bool)) E) → u ≡ [] → n ≤ 64
    → ((x : List Bool) → P x ↔ ((length x ≡ n) × (num x ≡ v))) → IfOk r (λ o. SomeIff o ((n ≤ 64) × (v < 2 ^ n)) (enc n v))
    → IfOk r (λ o. (s : Option (List Bool)) → IsOnly (λ x. (u ≡ []) × P x) o)
crc_only P u n v r none short same h =
    IfOk-weaker r (λ o. SomeIff o ((n ≤ 64) × (v < 2 ^ n)) (enc n v)) (λ o. (s : Option (List Bool)) → IsOnly (λ x. (u ≡ []) × P x) o)
    (λ o k s. only_along (Spells (pos n) (pos v)) (λ x. (u ≡ []) × P x) o
    (λ x p. (none, (same x).1 (omega (arith, ints, p.length_is), omega (arith, ints, p.number_is))))
    (λ x p. let q = (same x).0 p.1 in record { length_is = ap pos q.0; number_is = ap pos q.1; short = omega (arith, q.0) })
    (spelled_only n v o k)) h
