-- What numbers lie in what ranges, and when 128 bits suffice.
use Rattle.std.specs.Prelude.{◌≡◌, false, MatchOption, ℕ, ℤ, pos, ◌≤ℤ◌, IfSome, IsTrue, IsOk, Option}
use Rattle.sem_expr.specs.declared.expr.Attribute.{Attribute}
use Rattle.sem_expr.specs.declared.expr.Operator.{Operator}
use Rattle.sem_expr.specs.declared.expr.Operator.TheVariants.{Power}
use Rattle.sem_expr.specs.declared.expr.Expr.{Expr}
use Rattle.sem_expr.specs.declared.expr.Cond.{Cond}
use Rattle.sem_expr.specs.declared.expr.Cond.TheVariants.{Constant, Compare, Not', And', Or'}
use Rattle.sem_expr.specs.Values.{Assignment, apply}
use Rattle.sem_expr.specs.declared.interval.Interval.{Interval}
use Rattle.sem_expr.specs.Rules.{IsIn, is_within, is_limited}
use Rattle.sem_expr.specs.Ranged.{Bounding, ranged}

-- each number that is there lies in its range
pub record LieIn (a : Assignment) (r : Bounding) : Type 0 where
  pub attributes : (t : Attribute) → IfSome (a.attribute t) (IsIn (r.attribute t))
  pub parameters : (i : ℕ) → IfSome (a.parameter i) (IsIn (r.parameter i))

-- the expression has a range
abbrev pub IsAccepted : Bounding → Expr → Type 0
IsAccepted r e = IsOk (ranged r e)

-- each expression of whole numbers in the condition has one
abbrev pub AreAccepted : Bounding → Cond → Type 0
AreAccepted r (Constant s b) = Unit {0}
AreAccepted r (Compare s op x y) = IsAccepted r x × IsAccepted r y
AreAccepted r (Not' s p x) = AreAccepted r x
AreAccepted r (And' s p x q y) = AreAccepted r x × AreAccepted r y
AreAccepted r (Or' s p x q y) = AreAccepted r x × AreAccepted r y

-- the expression is accepted under some ranges in which the numbers lie
pub record IsRanged (a : Assignment) (e : Expr) : Type 0 where
  pub ranges : Bounding
  pub lie : LieIn a ranges
  pub accepted : IsAccepted ranges e

pub record AreRanged (a : Assignment) (c : Cond) : Type 0 where
  pub ranges : Bounding
  pub lie : LieIn a ranges
  pub accepted : AreAccepted ranges c

-- the operands and the outcome are within 2^120, and an exponent is not above 127
pub record IsCalculable (op : Operator) (x y : ℤ) : Type 0 where
  pub left : IsTrue (is_within x)
  pub right : IsTrue (is_within y)
  pub outcome : IfSome (apply op x y) (λ v. IsTrue (is_within v))
  pub exponent : op ≡ Power → y ≤ℤ pos 127

-- the interval, or nothing only where it is beyond the limit
abbrev pub Gives : Option Interval → Interval → Type 0
Gives o i = MatchOption o (is_limited i ≡ false) (λ j. j ≡ i)
