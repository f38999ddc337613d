-- The interval rules: what an operator makes of the ranges of its operands (docs/NOTATION.md, Expressions).
use Rattle.std.specs.Prelude.{ℕ, ◌^◌, max, ◌+ℤ◌, ◌-ℤ◌, ◌*ℤ◌, ◌≤ℤ◌, neg_ℤ, int_lt, int_le, unsigned_abs, Bool, false, ◌&&◌, ◌||◌, ℤ, pos, negsuc, if◌then◌else◌}
use Rattle.std.specs.Int.{int_min, int_max, int_pow}
use Rattle.std.specs.Ordering.{int_eq}
use Rattle.sem_expr.specs.declared.expr.Operator.{Operator}
use Rattle.sem_expr.specs.declared.expr.Operator.TheVariants.{Add, Subtract, Multiply, Divide, Remainder, Power}
use Rattle.sem_expr.specs.declared.interval.Interval.{Interval}

-- the number lies in the interval
pub record IsIn (i : Interval) (v : ℤ) : Type 0 where
  pub above : i.from ≤ℤ v
  pub below : v ≤ℤ i.to

abbrev pub from_to : ℤ → ℤ → Interval
from_to a b = record { from = a; to = b }

-- from -2^120 to 2^120
abbrev pub is_within : ℤ → Bool
is_within z = int_le (neg_ℤ (pos (2 ^ 120))) z && int_le z (pos (2 ^ 120))

-- both end points are
abbrev pub is_limited : Interval → Bool
is_limited i = is_within i.from && is_within i.to

-- an end point is negative
abbrev pub has_negative : Interval → Bool
has_negative i = int_lt i.from (pos 0) || int_lt i.to (pos 0)

-- an end point is above the number
abbrev pub passes : ℤ → Interval → Bool
passes n i = int_lt n i.from || int_lt n i.to

-- the greatest absolute end point
abbrev pub greatest_size : Interval → ℕ
greatest_size i = max (unsigned_abs i.from) (unsigned_abs i.to)

-- from 0 or from -m to m
abbrev pub up_to_size : Bool → ℕ → Interval
up_to_size negative m = from_to (if negative then neg_ℤ (pos m) else pos 0) (pos m)

abbrev pub add_rule : Interval → Interval → Interval
add_rule i j = from_to (i.from +ℤ j.from) (i.to +ℤ j.to)

abbrev pub subtract_rule : Interval → Interval → Interval
subtract_rule i j = from_to (i.from -ℤ j.to) (i.to -ℤ j.from)

-- the least and the greatest product of end points
abbrev pub multiply_rule : Interval → Interval → Interval
multiply_rule i j =
    from_to
    (int_min (int_min (i.from *ℤ j.from) (i.from *ℤ j.to)) (int_min (i.to *ℤ j.from) (i.to *ℤ j.to)))
    (int_max (int_max (i.from *ℤ j.from) (i.from *ℤ j.to)) (int_max (i.to *ℤ j.from) (i.to *ℤ j.to)))

-- up to the greatest size of the dividend, also below 0 where an operand may be negative
abbrev pub divide_rule : Interval → Interval → Interval
divide_rule i j = up_to_size (has_negative i || has_negative j) (greatest_size i)

-- up to the greatest size of the divisor, also below 0 where it may be negative
abbrev pub remainder_rule : Interval → Interval → Interval
remainder_rule i j = up_to_size (has_negative j) (greatest_size j)

-- the number as an exponent: 0 where it is negative
abbrev pub exponent : ℤ → ℕ
exponent (pos n) = n
exponent (negsuc n) = 0

-- from 0, or from the least power where the base is above 0, to the greatest power; a base of 0 has a power of 1
abbrev pub power_rule : Interval → Interval → Interval
power_rule i j =
    from_to
    (if int_lt (pos 0) i.from then int_pow i.from (exponent j.from) else pos 0)
    (if int_eq i.to (pos 0) then pos 1 else int_pow i.to (exponent j.to))

abbrev pub rule : Operator → Interval → Interval → Interval
rule Add i j = add_rule i j
rule Subtract i j = subtract_rule i j
rule Multiply i j = multiply_rule i j
rule Divide i j = divide_rule i j
rule Remainder i j = remainder_rule i j
rule Power i j = power_rule i j

-- a power is refused where its base may be negative or its exponent may pass 127
abbrev pub refuses : Operator → Interval → Interval → Bool
refuses Power i j = has_negative i || passes (pos 127) j
refuses _ i j = false
