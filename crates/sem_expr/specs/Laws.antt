-- What holds of values and ranges.
use Rattle.std.specs.Prelude.{◌≡◌, ◌≢◌, ◌↔◌, ℕ, suc, true, false, ◌+ℤ◌, ◌*ℤ◌, ◌≤ℤ◌, ◌<ℤ◌, ℤ, pos, negsuc, Some, None, Ok, Err, IsSomeAnd}
use Rattle.std.specs.Option.{option_map}
use Rattle.text_source.specs.declared.span.Span.{Span}
use Rattle.sem_expr.specs.declared.expr.Attribute.{Attribute}
use Rattle.sem_expr.specs.declared.expr.Operator.{Operator}
use Rattle.sem_expr.specs.declared.expr.Expr.{Expr}
use Rattle.sem_expr.specs.declared.expr.Expr.TheVariants as expr
use Rattle.sem_expr.specs.declared.expr.Expr.TheVariants.{Number, Parameter, Binary'}
use Rattle.sem_expr.specs.declared.expr.Cond.{Cond}
use Rattle.sem_expr.specs.declared.fault.RangeFault.{RangeFault}
use Rattle.sem_expr.specs.declared.interval.Interval.{Interval}
use Rattle.sem_expr.specs.Values.{Assignment, quotient, power, val, truth}
use Rattle.sem_expr.specs.Rules.{IsIn, from_to, is_within, is_limited, has_negative, passes, rule, refuses}
use Rattle.sem_expr.specs.Ranged.{Bounding, ranged, above_limit, refused_power}
use Rattle.sem_expr.specs.Spread.{LieIn}
use Rattle.sem_expr.specs.Inputs.{inputs_of, condition_inputs_of, Agree}

-- The expression has the range: a leaf's is the number or the given one, an operator's is by its rule from those of its operands,
-- and each is within the limit.
pub data HasRange (r : Bounding) : Expr → Interval → Type 0 where
  number_range : (s : Span) (n : ℤ) → is_limited (from_to n n) ≡ true → HasRange r (Number s n) (from_to n n)
  parameter_range : (s : Span) (i : ℕ) → is_limited (r.parameter i) ≡ true → HasRange r (Parameter s i) (r.parameter i)
  attribute_range : (s : Span) (t : Attribute) → is_limited (r.attribute t) ≡ true → HasRange r (expr.Attribute s t) (r.attribute t)
  operator_range : {s : Span} {op : Operator} {p : _} {x : Expr} {q : _} {y : Expr} (i j : Interval) → HasRange r x i → HasRange r y j →
      refuses op i j ≡ false → is_limited (rule op i j) ≡ true → HasRange r (Binary' s op p x q y) (rule op i j)

-- The expression has the fault: that of its left operand, that of its right operand where the left one has a range, or its own at its place
-- where both have ranges: a refused power, or else a range beyond the limit.
pub data HasFault (r : Bounding) : Expr → RangeFault → Type 0 where
  number_fault : (s : Span) (n : ℤ) → is_limited (from_to n n) ≡ false → HasFault r (Number s n) (above_limit s)
  parameter_fault : (s : Span) (i : ℕ) → is_limited (r.parameter i) ≡ false → HasFault r (Parameter s i) (above_limit s)
  attribute_fault : (s : Span) (t : Attribute) → is_limited (r.attribute t) ≡ false → HasFault r (expr.Attribute s t) (above_limit s)
  left_fault : {s : Span} {op : Operator} {p : _} {x : Expr} {q : _} {y : Expr} {f : RangeFault} → HasFault r x f → HasFault r (Binary' s op p x q y) f
  right_fault : {s : Span} {op : Operator} {p : _} {x : Expr} {q : _} {y : Expr} {f : RangeFault} (i : Interval) → HasRange r x i → HasFault r y f →
      HasFault r (Binary' s op p x q y) f
  power_fault : {s : Span} {op : Operator} {p : _} {x : Expr} {q : _} {y : Expr} (i j : Interval) → HasRange r x i → HasRange r y j →
      refuses op i j ≡ true → HasFault r (Binary' s op p x q y) (refused_power s)
  limit_fault : {s : Span} {op : Operator} {p : _} {x : Expr} {q : _} {y : Expr} (i j : Interval) → HasRange r x i → HasRange r y j →
      refuses op i j ≡ false → is_limited (rule op i j) ≡ false → HasFault r (Binary' s op p x q y) (above_limit s)

abbrev pub RangesByTheRules : Type 0
RangesByTheRules = (r : Bounding) (e : Expr) (i : Interval) → (ranged r e ≡ Ok i) ↔ HasRange r e i

abbrev pub FaultsByTheRules : Type 0
FaultsByTheRules = (r : Bounding) (e : Expr) (f : RangeFault) → (ranged r e ≡ Err f) ↔ HasFault r e f

-- a value under numbers in the ranges lies in the expression's range
abbrev pub ValuesLieInRanges : Type 0
ValuesLieInRanges = (a : Assignment) (r : Bounding) (e : Expr) (i : Interval) (v : ℤ) → LieIn a r → ranged r e ≡ Ok i → val a e ≡ Some v → IsIn i v

-- a value, and a condition's, depends on the inputs alone
abbrev pub ValueByInputs : Type 0
ValueByInputs = (a b : Assignment) (e : Expr) → Agree a b (inputs_of e) → val a e ≡ val b e

abbrev pub TruthByInputs : Type 0
TruthByInputs = (a b : Assignment) (c : Cond) → Agree a b (condition_inputs_of c) → truth a c ≡ truth b c

-- q is x / y rounded towards minus infinity: q ≤ x / y < q + 1, each side times y, which turns the order where y is negative
pub record IsFloor (x y q : ℤ) : Type 0 where
  pub above_zero : pos 0 <ℤ y → ((y *ℤ q) ≤ℤ x) × (x <ℤ (y *ℤ q +ℤ y))
  pub below_zero : y <ℤ pos 0 → (x ≤ℤ (y *ℤ q)) × ((y *ℤ q +ℤ y) <ℤ x)

abbrev pub QuotientsAreFloors : Type 0
QuotientsAreFloors = ((x : ℤ) → quotient x (pos 0) ≡ None) × ((x y : ℤ) → y ≢ pos 0 → IsSomeAnd (quotient x y) (IsFloor x y))

-- x ^ 0 is 1, x ^ (n + 1) is x ^ n * x, and no power has a negative exponent
abbrev pub PowersMultiply : Type 0
PowersMultiply =
    ((x : ℤ) → power x (pos 0) ≡ Some (pos 1))
    × ((x : ℤ) (n : ℕ) → power x (pos (suc n)) ≡ option_map (λ p. p *ℤ x) (power x (pos n)))
    × ((x : ℤ) (n : ℕ) → power x (negsuc n) ≡ None)

-- of an interval that has a number, the tests on its end points speak for all its numbers
abbrev pub EndPointsDecide : Type 0
EndPointsDecide = (i : Interval) → i.from ≤ℤ i.to →
    ((has_negative i ≡ true) ↔ ((v : ℤ) × IsIn i v × (v <ℤ pos 0)))
    × ((n : ℤ) → (passes n i ≡ true) ↔ ((v : ℤ) × IsIn i v × (n <ℤ v)))
    × ((is_limited i ≡ true) ↔ ((v : ℤ) → IsIn i v → is_within v ≡ true))
