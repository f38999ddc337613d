-- What a constant is, and its value.
use Rattle.std.specs.Prelude.{◌≡◌, true, ℤ, Option, Some, None, Result, Ok, Err}
use Rattle.text_source.specs.declared.span.Span.{Span}
use Rattle.sem_expr.specs.declared.expr.Operator.{Operator}
use Rattle.sem_expr.specs.declared.expr.Expr.{Expr}
use Rattle.sem_expr.specs.declared.interval.Interval.{Interval}
use Rattle.sem_expr.specs.declared.fault.RangeFault.{RangeFault}
use Rattle.sem_expr.specs.Rules.{from_to, is_within}
use Rattle.sem_expr.specs.Ranged.{joined, ranged}
use Rattle.sem_expr.specs.Bounds.{anything, bounding_of}
use Rattle.sem_expr.specs.Known.{assignment_of, nothing_known}
use Rattle.sem_expr.specs.Values.{apply, val}

abbrev pub where_ranged : Result Interval RangeFault → Option ℤ → Option ℤ
where_ranged (Ok i) v = v
where_ranged (Err f) v = None

-- the value of the expression while no attribute and no parameter has a number, where it has a range
abbrev pub constant : Expr → Option ℤ
constant e = where_ranged (ranged (bounding_of anything) e) (val (assignment_of nothing_known) e)

-- ---- seen at a glance

-- this number, whose size is within the limit of ranges
pub record IsWithin (z v : ℤ) : Type 0 where
  pub same : v ≡ z
  pub within : is_within v ≡ true

-- of two numbers the operator makes this one, and of the ranges that are these numbers the range that is this one
pub record Calculates (op : Operator) (l r v : ℤ) : Type 0 where
  pub value_is : apply op l r ≡ Some v
  pub range_is : (at : Span) → joined at op (from_to l l) (from_to r r) ≡ Ok (from_to v v)

-- the expression has this value, and a range that is this one number
pub record IsExact (e : Expr) (v : ℤ) : Type 0 where
  pub value_is : val (assignment_of nothing_known) e ≡ Some v
  pub range_is : ranged (bounding_of anything) e ≡ Ok (from_to v v)
