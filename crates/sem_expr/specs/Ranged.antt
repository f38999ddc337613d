-- The range of an expression: by the rules from its parts, or the first fault, inner parts first and left to right (docs/NOTATION.md, Expressions).
use Rattle.std.specs.Prelude.{ℕ, Option, Some, None, Result, Ok, Err, if◌then◌else◌}
use Rattle.std.specs.Result.{result_err}
use Rattle.text_source.specs.declared.span.Span.{Span}
use Rattle.sem_expr.specs.declared.expr.Attribute.{Attribute}
use Rattle.sem_expr.specs.declared.expr.Operator.{Operator}
use Rattle.sem_expr.specs.declared.expr.Expr.{Expr}
use Rattle.sem_expr.specs.declared.expr.Expr.TheVariants as expr
use Rattle.sem_expr.specs.declared.expr.Expr.TheVariants.{Number, Parameter, Binary'}
use Rattle.sem_expr.specs.declared.expr.Cond.{Cond}
use Rattle.sem_expr.specs.declared.expr.Cond.TheVariants.{Constant, Compare, Not', And', Or'}
use Rattle.sem_expr.specs.declared.fault.RangeFaultKind.TheVariants as kinds
use Rattle.sem_expr.specs.declared.fault.RangeFault.{RangeFault}
use Rattle.sem_expr.specs.declared.interval.Interval.{Interval}
use Rattle.sem_expr.specs.Rules.{from_to, is_limited, rule, refuses}

-- a range for each attribute and parameter
pub record Bounding : Type 0 where
  pub attribute : Attribute → Interval
  pub parameter : ℕ → Interval

abbrev pub above_limit : Span → RangeFault
above_limit s = record { kind = kinds.AboveLimit; at = s }

abbrev pub refused_power : Span → RangeFault
refused_power s = record { kind = kinds.Power; at = s }

-- the range of the part at a place, if it is within the limit
abbrev pub limited : Span → Interval → Result Interval RangeFault
limited s i = if is_limited i then Ok i else Err (above_limit s)

-- the same of an operator's part, from the ranges of its operands: a refused power is not asked for its limit
abbrev pub joined : Span → Operator → Interval → Interval → Result Interval RangeFault
joined s op i j = if refuses op i j then Err (refused_power s) else limited s (rule op i j)

abbrev pub both_ranged : (Interval → Interval → Result Interval RangeFault) → Result Interval RangeFault → Result Interval RangeFault → Result Interval RangeFault
both_ranged f (Err e) r = Err e
both_ranged f (Ok i) (Err e) = Err e
both_ranged f (Ok i) (Ok j) = f i j

abbrev pub ranged : Bounding → Expr → Result Interval RangeFault
ranged r (Number s n) = limited s (from_to n n)
ranged r (Parameter s i) = limited s (r.parameter i)
ranged r (expr.Attribute s t) = limited s (r.attribute t)
ranged r (Binary' s op p x q y) = both_ranged (joined s op) (ranged r x) (ranged r y)

-- the first fault, if there is one
abbrev pub first_fault : Option RangeFault → Option RangeFault → Option RangeFault
first_fault (Some f) o = Some f
first_fault None o = o

-- the fault of the first expression of whole numbers in a condition that has no range, from left to right
abbrev pub fault_in : Bounding → Cond → Option RangeFault
fault_in r (Constant s b) = None
fault_in r (Compare s op x y) = first_fault (result_err (ranged r x)) (result_err (ranged r y))
fault_in r (Not' s p x) = fault_in r x
fault_in r (And' s p x q y) = first_fault (fault_in r x) (fault_in r y)
fault_in r (Or' s p x q y) = first_fault (fault_in r x) (fault_in r y)
