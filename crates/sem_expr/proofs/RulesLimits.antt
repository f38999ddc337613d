-- What the tests of the rules say.
use Rattle.std.proofs.Common.{◌≡◌, refl, ◌^◌, Bool, true, false, not, ℤ, pos, negsuc, ◌≤ℤ◌, ◌<ℤ◌, neg_ℤ, arith, FitsSigned}
use Rattle.std.specs.Prelude.{int_lt, int_le, T}
use mir.Syntax.{w128}
use Rattle.std.proofs.lemmas.Int.{ints}
use Rattle.std.proofs.lemmas.Bool.{false≢true, true≢false, and_parts, and_from, or_parts, false_from_ne_true}
use Rattle.std.specs.Int.Signed.{le_z_yes, lt_z_no}
use Rattle.sem_expr.specs.declared.interval.Interval.{Interval}
use Rattle.sem_expr.specs.Rules.{IsIn, is_within, is_limited, has_negative, passes}

T-from : (b : Bool) → b ≡ true → T b
T-from true h = tt
T-from false h = absurd (false≢true h)

true_from : (b : Bool) → T b → b ≡ true
true_from true h = refl
true_from false h = absurd h

T-not : (b : Bool) → b ≡ false → T (not b)
T-not true h = absurd (true≢false h)
T-not false h = tt

pub le_true : (x y : ℤ) → int_le x y ≡ true → x ≤ℤ y
le_true x y h = le_z_yes (T-from (int_le x y) h)

pub true_le : (x y : ℤ) → x ≤ℤ y → int_le x y ≡ true
true_le x y h = true_from (int_le x y) h.le

pub lt_false : (x y : ℤ) → int_lt x y ≡ false → y ≤ℤ x
lt_false x y h = lt_z_no (T-not (int_lt x y) h)

pub lt_true : (x y : ℤ) → int_lt x y ≡ true → x <ℤ y
lt_true x y h = record { lt = T-from (int_lt x y) h }

pub true_lt : (x y : ℤ) → x <ℤ y → int_lt x y ≡ true
true_lt x y h = true_from (int_lt x y) h.lt

-- from -2^120 to 2^120
pub record Within (z : ℤ) : Type 0 where
  pub low : neg_ℤ (pos (2 ^ 120)) ≤ℤ z
  pub high : z ≤ℤ pos (2 ^ 120)

pub within : (z : ℤ) → is_within z ≡ true → Within z
within z h =
    let p = and_parts (int_le (neg_ℤ (pos (2 ^ 120))) z) (int_le z (pos (2 ^ 120))) h in
    record { low = le_true (neg_ℤ (pos (2 ^ 120))) z p.0; high = le_true z (pos (2 ^ 120)) p.1 }

pub is_within_by : (z : ℤ) → Within z → is_within z ≡ true
is_within_by z w =
    and_from (int_le (neg_ℤ (pos (2 ^ 120))) z) (int_le z (pos (2 ^ 120))) (true_le (neg_ℤ (pos (2 ^ 120))) z w.low) (true_le z (pos (2 ^ 120)) w.high)

pub fits : (z : ℤ) → is_within z ≡ true → FitsSigned w128 z
fits (pos n) h = let w = within (pos n) h in record { sfits = omega (arith, ints) }
fits (negsuc n) h = let w = within (negsuc n) h in record { sfits = omega (arith, ints) }

pub not_within : (z : ℤ) → (Within z → ⊥) → is_within z ≡ false
not_within z h = false_from_ne_true (is_within z) (λ e. h (within z e))

-- both end points
pub record Limited (i : Interval) : Type 0 where
  pub from : Within i.from
  pub to : Within i.to

pub limited_is : (i : Interval) → is_limited i ≡ true → Limited i
limited_is i h =
    let p = and_parts (is_within i.from) (is_within i.to) h in
    record { from = within i.from p.0; to = within i.to p.1 }

pub not_limited : (i : Interval) → (Limited i → ⊥) → is_limited i ≡ false
not_limited i h = false_from_ne_true (is_limited i) (λ e. h (limited_is i e))

pub within_between : (i : Interval) (v : ℤ) → is_limited i ≡ true → IsIn i v → is_within v ≡ true
within_between i v h p =
    let l = limited_is i h in
    is_within_by v record { low = omega (arith, ints); high = omega (arith, ints) }

-- no end point is negative, or above the number
pub record NotNegative (i : Interval) : Type 0 where
  pub from : pos 0 ≤ℤ i.from
  pub to : pos 0 ≤ℤ i.to

pub not_negative : (i : Interval) → has_negative i ≡ false → NotNegative i
not_negative i h =
    let p = or_parts (int_lt i.from (pos 0)) (int_lt i.to (pos 0)) h in
    record { from = lt_false i.from (pos 0) p.0; to = lt_false i.to (pos 0) p.1 }

pub record AtMost (n : ℤ) (i : Interval) : Type 0 where
  pub from : i.from ≤ℤ n
  pub to : i.to ≤ℤ n

pub not_passed : (n : ℤ) (i : Interval) → passes n i ≡ false → AtMost n i
not_passed n i h =
    let p = or_parts (int_lt n i.from) (int_lt n i.to) h in
    record { from = lt_false n i.from p.0; to = lt_false n i.to p.1 }
