-- The rule of each operator holds all values of the operator at numbers in the ranges of its operands.
use Rattle.std.proofs.Common.{◌≡◌, ◌≢◌, refl, subst, ℕ, zero, suc, ◌^◌, ◌≤◌, Bool, true, false, cond, ◌||◌, ℤ, pos, negsuc, ◌+ℤ◌, ◌-ℤ◌, ◌*ℤ◌, ◌≤ℤ◌, ◌<ℤ◌, neg_ℤ, Some, arith}
use Rattle.std.specs.Prelude.{int_lt, unsigned_abs}
use Rattle.std.specs.Int.{int_pow}
use Rattle.std.specs.Ordering.{int_eq}
use Rattle.std.proofs.lemmas.Int.{ints, clamps, by_lt_z}
use Rattle.std.proofs.lemmas.Bool.{or_parts, cond_both}
use Rattle.std.proofs.lemmas.Bool.Decides.{Decides-int_eq}
use Rattle.std.proofs.Math.Nat.{pow-zero, pow-suc, pow-le-pow_left, pow-le-pow_right, mul-zero}
use Rattle.sem_expr.specs.declared.interval.Interval.{Interval}
use Rattle.sem_expr.specs.declared.expr.Operator.{Operator}
use Rattle.sem_expr.specs.declared.expr.Operator.TheVariants.{Add, Subtract, Multiply, Divide, Remainder, Power}
use Rattle.sem_expr.specs.Values.{apply, quotient, remainder, power, floor_by}
use Rattle.sem_expr.specs.Rules.{IsIn, up_to_size, has_negative, greatest_size, add_rule, subtract_rule, multiply_rule, divide_rule, remainder_rule, power_rule, exponent, rule, refuses, passes}
use Rattle.sem_expr.specs.Laws.{IsFloor}
use Rattle.sem_expr.proofs.RulesProducts.{between, between_right}
use Rattle.sem_expr.proofs.ValuesFloors.{Nearer, nearer, is_floor}
use Rattle.sem_expr.proofs.RulesLimits.{not_negative}

add_in : (i j : Interval) (x y : ℤ) → IsIn i x → IsIn j y → IsIn (add_rule i j) (x +ℤ y)
add_in i j x y p q = record { above = omega (arith, ints); below = omega (arith, ints) }

subtract_in : (i j : Interval) (x y : ℤ) → IsIn i x → IsIn j y → IsIn (subtract_rule i j) (x -ℤ y)
subtract_in i j x y p q = record { above = omega (arith, ints); below = omega (arith, ints) }

multiply_in : (i j : Interval) (x y : ℤ) → IsIn i x → IsIn j y → IsIn (multiply_rule i j) (x *ℤ y)
multiply_in i j x y p q =
    let b = between i.from i.to x y p.above p.below in
    let l = between_right i.from j.from j.to y q.above q.below in
    let h = between_right i.to j.from j.to y q.above q.below in
    record { above = omega (arith, ints, clamps); below = omega (arith, ints, clamps) }

-- the size of a number, and of one in an interval
record Sized (z : ℤ) (m : ℕ) : Type 0 where
  low : neg_ℤ (pos m) ≤ℤ z
  high : z ≤ℤ pos m

own_size : (z : ℤ) → Sized z (unsigned_abs z)
own_size (pos n) = record { low = omega (arith, ints); high = omega (arith, ints) }
own_size (negsuc n) = record { low = omega (arith, ints); high = omega (arith, ints) }

size_in : (i : Interval) (x : ℤ) → IsIn i x → Sized x (greatest_size i)
size_in i x p =
    let a = own_size i.from in
    let b = own_size i.to in
    record { low = omega (arith, ints); high = omega (arith, ints) }

-- a number of that size lies in the interval of the size, if it is not negative where the interval has no negative number
sized_in : (negative : Bool) (m : ℕ) (z : ℤ) → Sized z m → (negative ≡ false → pos 0 ≤ℤ z) → IsIn (up_to_size negative m) z
sized_in true m z s h = record { above = s.low; below = s.high }
sized_in false m z s h = record { above = h refl; below = s.high }

nearer_sized : (x q : ℤ) (m : ℕ) → Nearer x q → Sized x m → Sized q m
nearer_sized x q m n s =
    by_lt_z x (pos 0)
    (λ h. let b = n.below h in record { low = omega (arith, ints); high = omega (arith, ints) })
    (λ h. let b = n.above h in record { low = omega (arith, ints); high = omega (arith, ints) })

quotient_sized : (x y v : ℤ) (m : ℕ) → quotient x y ≡ Some v → Sized x m → Sized v m
quotient_sized x (pos zero) v m e s = absurd (cc)
quotient_sized x (pos (suc d)) v m e s =
    let same : floor_by (suc d) x ≡ v = cc in
    subst (λ z. Sized z m) same (nearer_sized x (floor_by (suc d) x) m (nearer d x) s)
quotient_sized x (negsuc d) v m e s =
    let same : floor_by (suc d) (neg_ℤ x) ≡ v = cc in
    let t : Sized (neg_ℤ x) m = record { low = omega (arith, ints); high = omega (arith, ints) } in
    subst (λ z. Sized z m) same (nearer_sized (neg_ℤ x) (floor_by (suc d) (neg_ℤ x)) m (nearer d (neg_ℤ x)) t)

quotient_not_negative : (x y v : ℤ) → quotient x y ≡ Some v → pos 0 ≤ℤ x → pos 0 ≤ℤ y → pos 0 ≤ℤ v
quotient_not_negative x (pos zero) v e h k = absurd (cc)
quotient_not_negative x (pos (suc d)) v e h k =
    let same : floor_by (suc d) x ≡ v = cc in
    subst (λ z. pos 0 ≤ℤ z) same ((nearer d x).above h).0
quotient_not_negative x (negsuc d) v e h k = absurd (omega (arith, ints))

divide_in : (i j : Interval) (x y v : ℤ) → IsIn i x → IsIn j y → quotient x y ≡ Some v → IsIn (divide_rule i j) v
divide_in i j x y v p q e =
    sized_in (has_negative i || has_negative j) (greatest_size i) v (quotient_sized x y v (greatest_size i) e (size_in i x p))
    (λ h.
    let b = or_parts (has_negative i) (has_negative j) h in
    let n = not_negative i b.0 in
    let m = not_negative j b.1 in
    quotient_not_negative x y v e (omega (arith, ints)) (omega (arith, ints)))

-- a remainder has the divisor's sign and is nearer to 0
record Rest (y v : ℤ) : Type 0 where
  above : pos 0 <ℤ y → (pos 0 ≤ℤ v) × (v <ℤ y)
  below : y <ℤ pos 0 → (v ≤ℤ pos 0) × (y <ℤ v)
  some : y ≢ pos 0

rest_at : (x y q : ℤ) → y ≢ pos 0 → IsFloor x y q → Rest y (x -ℤ (y *ℤ q))
rest_at x y q h f = record {
  above = λ p. let b = f.above_zero p in (omega (arith, ints), omega (arith, ints));
  below = λ p. let b = f.below_zero p in (omega (arith, ints), omega (arith, ints));
  some = h;
}

rest_is : (x y v : ℤ) → remainder x y ≡ Some v → Rest y v
rest_is x (pos zero) v e = absurd (cc)
rest_is x (pos (suc d)) v e =
    let same : x -ℤ (pos (suc d) *ℤ floor_by (suc d) x) ≡ v = cc in
    let ne : pos (suc d) ≢ pos 0 = λ h. cc in
    subst (λ z. Rest (pos (suc d)) z) same (rest_at x (pos (suc d)) (floor_by (suc d) x) ne (is_floor x (pos (suc d)) ne))
rest_is x (negsuc d) v e =
    let same : x -ℤ (negsuc d *ℤ floor_by (suc d) (neg_ℤ x)) ≡ v = cc in
    let ne : negsuc d ≢ pos 0 = λ h. cc in
    subst (λ z. Rest (negsuc d) z) same (rest_at x (negsuc d) (floor_by (suc d) (neg_ℤ x)) ne (is_floor x (negsuc d) ne))

rest_sized : (y v : ℤ) (m : ℕ) → Rest y v → Sized y m → Sized v m
rest_sized y v m r s =
    by_lt_z y (pos 0)
    (λ h. let b = r.below h in record { low = omega (arith, ints); high = omega (arith, ints) })
    (λ h. by_lt_z (pos 0) y
    (λ k. let b = r.above k in record { low = omega (arith, ints); high = omega (arith, ints) })
    (λ k. let zero_is : y ≡ pos 0 = omega (arith, ints) in absurd (r.some zero_is)))

rest_not_negative : (y v : ℤ) → Rest y v → pos 0 ≤ℤ y → pos 0 ≤ℤ v
rest_not_negative y v r h =
    by_lt_z (pos 0) y (λ k. (r.above k).0) (λ k. let zero_is : y ≡ pos 0 = omega (arith, ints) in absurd (r.some zero_is))

remainder_in : (i j : Interval) (x y v : ℤ) → IsIn i x → IsIn j y → remainder x y ≡ Some v → IsIn (remainder_rule i j) v
remainder_in i j x y v p q e =
    let r = rest_is x y v e in
    sized_in (has_negative j) (greatest_size j) v (rest_sized y v (greatest_size j) r (size_in j y q))
    (λ h. let n = not_negative j h in rest_not_negative y v r (omega (arith, ints)))

exponent_below : (c : ℤ) (n : ℕ) → c ≤ℤ pos n → exponent c ≤ n
exponent_below (pos c) n h = omega (arith, ints)
exponent_below (negsuc c) n h = omega arith

exponent_above : (d : ℤ) (n : ℕ) → pos n ≤ℤ d → n ≤ exponent d
exponent_above (pos d) n h = omega (arith, ints)
exponent_above (negsuc d) n h = absurd (omega (arith, ints))

zero_powers : (k n : ℕ) → k ≤ 0 → k ^ n ≤ 1
zero_powers k zero h = omega (arith, pow-zero k)
zero_powers zero (suc n) h = rw (pow-suc, mul-zero) (omega arith)
zero_powers (suc k) (suc n) h = absurd (omega arith)

power_low : (a c : ℤ) (k n : ℕ) → a ≤ℤ pos k → c ≤ℤ pos n → cond (int_lt (pos 0) a) (int_pow a (exponent c)) (pos 0) ≤ℤ pos (k ^ n)
power_low (pos zero) c k n h g = omega (arith, ints)
power_low (pos (suc a)) c k n h g =
    let e = exponent_below c n g in
    let p : suc a ^ exponent c ≤ suc a ^ n = pow-le-pow_right (omega arith) e in
    let q : suc a ^ n ≤ k ^ n = pow-le-pow_left (omega (arith, ints)) n in
    cond_both (int_lt (pos 0) (pos (suc a))) (pos (suc a ^ exponent c)) (pos 0) (λ z. z ≤ℤ pos (k ^ n)) (λ t. omega (arith, ints)) (λ t. omega (arith, ints))
power_low (negsuc a) c k n h g = omega (arith, ints)

power_high : (b d : ℤ) (k n : ℕ) → pos k ≤ℤ b → pos n ≤ℤ d → pos (k ^ n) ≤ℤ cond (int_eq b (pos 0)) (pos 1) (int_pow b (exponent d))
power_high (pos zero) d k n h g = let e = zero_powers k n (omega (arith, ints)) in omega (arith, ints)
power_high (pos (suc b)) d k n h g =
    let e = exponent_above d n g in
    let p : k ^ n ≤ suc b ^ n = pow-le-pow_left (omega (arith, ints)) n in
    let q : suc b ^ n ≤ suc b ^ exponent d = pow-le-pow_right (omega arith) e in
    cond_both (int_eq (pos (suc b)) (pos 0)) (pos 1) (pos (suc b ^ exponent d)) (λ z. pos (k ^ n) ≤ℤ z)
    (λ t. let same : pos (suc b) ≡ pos 0 = (Decides-int_eq (pos (suc b)) (pos 0)).0 t in absurd (cc))
    (λ t. omega (arith, ints))
power_high (negsuc b) d k n h g = absurd (omega (arith, ints))

power_in : (i j : Interval) (x y v : ℤ) → IsIn i x → IsIn j y → refuses Power i j ≡ false → power x y ≡ Some v → IsIn (power_rule i j) v
power_in i j (negsuc k) y v p q r e =
    let n = not_negative i (or_parts (has_negative i) (passes (pos 127) j) r).0 in absurd (omega (arith, ints))
power_in i j (pos k) (negsuc n) v p q r e = absurd (cc)
power_in i j (pos k) (pos n) v p q r e =
    let same : pos (k ^ n) ≡ v = cc in
    subst (λ z. IsIn (power_rule i j) z) same record { above = power_low i.from j.from k n p.above q.above; below = power_high i.to j.to k n p.below q.below }

-- for each operator
pub rule_holds : (op : Operator) (i j : Interval) (x y v : ℤ) → IsIn i x → IsIn j y → refuses op i j ≡ false → apply op x y ≡ Some v → IsIn (rule op i j) v
rule_holds Add i j x y v p q r e = let same : x +ℤ y ≡ v = cc in subst (λ z. IsIn (add_rule i j) z) same (add_in i j x y p q)
rule_holds Subtract i j x y v p q r e = let same : x -ℤ y ≡ v = cc in subst (λ z. IsIn (subtract_rule i j) z) same (subtract_in i j x y p q)
rule_holds Multiply i j x y v p q r e = let same : x *ℤ y ≡ v = cc in subst (λ z. IsIn (multiply_rule i j) z) same (multiply_in i j x y p q)
rule_holds Divide i j x y v p q r e = divide_in i j x y v p q e
rule_holds Remainder i j x y v p q r e = remainder_in i j x y v p q e
rule_holds Power i j x y v p q r e = power_in i j x y v p q r e
