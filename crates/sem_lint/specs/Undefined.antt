-- Expressions that have no value, since a part of them divides by 0 or has an exponent below 0 (docs/NOTATION.md, Expressions).
use Rattle.std.specs.Prelude.{List, [], ◌∷◌, Bool, false, ◌&&◌, pos, int_lt, Option, Some, None, Result, Ok, Err, if◌then◌else◌}
use Rattle.std.specs.Ordering.{int_eq}
use Rattle.text_source.specs.declared.span.Span.{Span}
use Rattle.sem_expr.specs.declared.expr.Cond.{Cond}
use Rattle.sem_expr.specs.declared.expr.Cond.TheVariants.{Constant, Compare, Not', And', Or'}
use Rattle.sem_expr.specs.declared.expr.Expr.{Expr}
use Rattle.sem_expr.specs.declared.expr.Expr.TheVariants as expr
use Rattle.sem_expr.specs.declared.expr.Expr.TheVariants.{Number, Parameter, Binary'}
use Rattle.sem_expr.specs.declared.expr.Operator.{Operator}
use Rattle.sem_expr.specs.declared.expr.Operator.TheVariants.{Divide, Remainder, Power}
use Rattle.sem_expr.specs.declared.fault.RangeFault.{RangeFault}
use Rattle.sem_expr.specs.declared.interval.Interval.{Interval}
use Rattle.sem_expr.specs.Ranged.{Bounding, ranged}
use Rattle.sem_profile.specs.declared.profile.Constraint.{Constraint}
use Rattle.sem_profile.specs.declared.profile.Constraint.TheVariants.{Bracket, Enforce}

abbrev pub first_of : Option Span → Option Span → Option Span
first_of (Some s) o = Some s
first_of None o = o

-- no number but 0
abbrev pub is_zero : Result Interval RangeFault → Bool
is_zero (Ok i) = int_eq i.from (pos 0) && int_eq i.to (pos 0)
is_zero (Err e) = false

-- no number from 0 on
abbrev pub is_negative : Result Interval RangeFault → Bool
is_negative (Ok i) = int_lt i.to (pos 0)
is_negative (Err e) = false

-- there is no value where the operand on the right can be nothing but that
abbrev pub gives_none : Operator → Result Interval RangeFault → Bool
gives_none Divide o = is_zero o
gives_none Remainder o = is_zero o
gives_none Power o = is_negative o
gives_none _ o = false

abbrev pub lacking : Span → Operator → Result Interval RangeFault → Option Span
lacking s op o = if gives_none op o then Some s else None

-- the first part that by the ranges can only divide by 0 or have an exponent below 0, inner parts first
abbrev pub undefined : Bounding → Expr → Option Span
undefined r (Number s n) = None
undefined r (Parameter s i) = None
undefined r (expr.Attribute s t) = None
undefined r (Binary' s op p x q y) = first_of (first_of (undefined r x) (undefined r y)) (lacking s op (ranged r y))

-- that of the first of these that has one
abbrev pub first_undefined : Bounding → List Expr → Option Span
first_undefined r [] = None
first_undefined r (e ∷ es) = first_of (undefined r e) (first_undefined r es)

-- that of a condition
abbrev pub undefined_truth : Bounding → Cond → Option Span
undefined_truth r (Constant s b) = None
undefined_truth r (Compare s op x y) = first_of (undefined r x) (undefined r y)
undefined_truth r (Not' s p x) = undefined_truth r x
undefined_truth r (And' s p x q y) = first_of (undefined_truth r x) (undefined_truth r y)
undefined_truth r (Or' s p x q y) = first_of (undefined_truth r x) (undefined_truth r y)

abbrev pub undefined_constraint : Bounding → Constraint → Option Span
undefined_constraint r (Bracket i side lengths place) = None
undefined_constraint r (Enforce condition place) = undefined_truth r condition

-- that of the first condition among these that has one
abbrev pub undefined_condition : Bounding → List Constraint → Option Span
undefined_condition r [] = None
undefined_condition r (c ∷ cs) = first_of (undefined_constraint r c) (undefined_condition r cs)
