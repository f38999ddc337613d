-- Conditions that their ranges make false: a truth that a condition never has, whatever the numbers in it are. And brackets with none of the lengths that a side may have.
use Rattle.std.specs.Prelude.{◌≡◌, ℕ, List, [], ◌∷◌, slice_get, Option, Some, None, Bool, true, false, not, ◌&&◌, ◌||◌, int_le, int_lt, Result, Ok, Err}
use Rattle.sem_expr.specs.declared.expr.Comparison.{Comparison}
use Rattle.sem_expr.specs.declared.expr.Comparison.TheVariants.{Equal, NotEqual, Less, Greater, AtMost, AtLeast}
use Rattle.sem_expr.specs.declared.expr.Cond.{Cond}
use Rattle.sem_expr.specs.declared.expr.Cond.TheVariants.{Constant, Compare, Not', And', Or'}
use Rattle.sem_expr.specs.declared.expr.Expr.{Expr}
use Rattle.sem_expr.specs.declared.expr.Subject.TheVariants as subject
use Rattle.sem_expr.specs.declared.fault.RangeFault.{RangeFault}
use Rattle.sem_expr.specs.declared.interval.Interval.{Interval}
use Rattle.sem_expr.specs.Ranged.{Bounding, ranged}
use Rattle.sem_profile.specs.declared.profile.Constraint.{Constraint}
use Rattle.sem_profile.specs.declared.profile.Constraint.TheVariants.{Bracket, Enforce}
use Rattle.text_source.specs.declared.span.Span.{Span}
use Rattle.sem_lint.specs.Attributes.{length_range}
use Rattle.sem_lint.specs.Undefined.{undefined}

-- no number of the one interval compares so with a number of the other
abbrev pub is_apart : Comparison → Interval → Interval → Bool
is_apart Equal i j = int_lt i.to j.from || int_lt j.to i.from
is_apart NotEqual i j = int_le i.to j.from && int_le j.to i.from
is_apart Less i j = int_le j.to i.from
is_apart Greater i j = int_le i.to j.from
is_apart AtMost i j = int_lt j.to i.from
is_apart AtLeast i j = int_lt i.to j.from

-- the comparison that is true where this one is false
abbrev pub opposite : Comparison → Comparison
opposite Equal = NotEqual
opposite NotEqual = Equal
opposite Less = AtLeast
opposite Greater = AtMost
opposite AtMost = Greater
opposite AtLeast = Less

-- by the ranges of the two sides, where both have one
abbrev pub are_apart : Comparison → Result Interval RangeFault → Result Interval RangeFault → Bool
are_apart op (Ok i) (Ok j) = is_apart op i j
are_apart op (Ok i) (Err e) = false
are_apart op (Err e) j = false

abbrev mutual
  -- by the ranges the condition is never true
  pub never_true : Bounding → Cond → Bool
  never_true r (Constant s b) = not b
  never_true r (Compare s op x y) = are_apart op (ranged r x) (ranged r y)
  never_true r (Not' s p x) = never_false r x
  never_true r (And' s p x q y) = never_true r x || never_true r y
  never_true r (Or' s p x q y) = never_true r x && never_true r y

  -- nor is it ever false
  pub never_false : Bounding → Cond → Bool
  never_false r (Constant s b) = b
  never_false r (Compare s op x y) = are_apart (opposite op) (ranged r x) (ranged r y)
  never_false r (Not' s p x) = never_true r x
  never_false r (And' s p x q y) = never_false r x && never_false r y
  never_false r (Or' s p x q y) = never_false r x || never_false r y

abbrev pub is_there : Option Span → Bool
is_there (Some s) = true
is_there None = false

-- the expression has no value, or never one of these numbers
abbrev pub is_none_of : Bounding → Interval → Expr → Bool
is_none_of r due e = is_there (undefined r e) || are_apart Equal (ranged r e) (Ok due)

-- so it is with each of these
abbrev pub are_none_of : Bounding → Interval → List Expr → Bool
are_none_of r due [] = true
are_none_of r due (e ∷ es) = is_none_of r due e && are_none_of r due es

-- the constraint is a condition that is never true, or a bracket with none of the lengths that the side may have
abbrev pub is_untrue : Bounding → Constraint → Bool
is_untrue r (Bracket i side lengths place) = are_none_of r (length_range r (subject.Field i) side) lengths
is_untrue r (Enforce condition place) = never_true r condition

-- so is the constraint j
pub record IsUntrue (constraints : List Constraint) (r : Bounding) (j : ℕ) : Type 0 where
  pub constraint : Constraint
  pub constraint_at : slice_get constraints j ≡ Some constraint
  pub untrue : is_untrue r constraint ≡ true
