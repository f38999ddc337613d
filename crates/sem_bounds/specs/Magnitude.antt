-- How far from 0 an expression may reach, where its range is seen to be within the limit.
use Rattle.std.specs.Prelude.{◌≡◌, ℕ, ◌+◌, ◌≤◌, ◌^◌, ℤ, pos, neg_ℤ, ◌≤ℤ◌, false, List, None, Result, Ok}
use Rattle.text_source.specs.declared.span.Span.{Span}
use Rattle.sem_expr.specs.declared.expr.Attribute.{Attribute}
use Rattle.sem_expr.specs.declared.expr.Subject.{Subject}
use Rattle.sem_expr.specs.declared.expr.Operator.{Operator}
use Rattle.sem_expr.specs.declared.expr.Expr.{Expr}
use Rattle.sem_expr.specs.declared.interval.Interval.{Interval}
use Rattle.sem_expr.specs.declared.fault.RangeFault.{RangeFault}
use Rattle.sem_expr.specs.declared.expr.Operator.TheVariants.{Power}
use Rattle.sem_expr.specs.Rules.{from_to}
use Rattle.sem_expr.specs.Ranged.{Bounding, limited, ranged, joined, both_ranged}
use Rattle.sem_expr.specs.Bounds.{bounding_of, subject_intervals}
use Rattle.sem_profile.specs.declared.profile.Sizes.{Sizes}
use Rattle.sem_profile.specs.declared.profile.FormatSizes.{FormatSizes}
use Rattle.sem_profile.specs.declared.profile.Format.{Format}
use Rattle.sem_profile.specs.Precedence.{earlier}
use Rattle.sem_profile.specs.Ranging.{format_ranges, side_ranges}
use Rattle.sem_profile.specs.BoundsFaults.{subject_sizes, is_wide, wide_in}

-- the ranges in a format
abbrev pub bounding : FormatSizes → List Interval → Bounding
bounding s parameters = bounding_of (format_ranges s parameters)

-- the number is from -m to m
pub record LiesUpTo (m : ℕ) (z : ℤ) : Type 0 where
  pub low : neg_ℤ (pos m) ≤ℤ z
  pub high : z ≤ℤ pos m

-- both end points are, and m is within the limit of ranges
pub record IsUpTo (i : Interval) (m : ℕ) : Type 0 where
  pub from : LiesUpTo m i.from
  pub to : LiesUpTo m i.to
  pub limit : m ≤ 2 ^ 120

-- it is a range of that kind
pub record HasRange (o : Result Interval RangeFault) (m : ℕ) : Type 0 where
  pub range : Interval
  pub is : o ≡ Ok range
  pub up_to : IsUpTo range m

-- the bounds of what an attribute speaks of, whose ranges are by them
pub record IsFound (s : FormatSizes) (subject : Subject) (found : Sizes) : Type 0 where
  pub sizes : subject_sizes s subject ≡ found
  pub ranges : (parameters : List Interval) → subject_intervals (format_ranges s parameters) subject ≡ side_ranges found

-- no value of more than 64 bits is asked for
pub record IsNarrow (s : FormatSizes) (t : Attribute) (m : ℕ) : Type 0 where
  pub narrow : is_wide s t ≡ false
  pub up_to : (parameters : List Interval) → IsUpTo ((bounding s parameters).attribute t) m

-- the operator makes a range up to m of ranges up to l and r
pub record Combines (op : Operator) (l r m : ℕ) : Type 0 where
  pub joins : (at : Span) (o u : Result Interval RangeFault) → HasRange o l → HasRange u r → HasRange (both_ranged (joined at op) o u) m

-- a power of two numbers has such a range
pub record IsPower (base exponent : ℤ) (m : ℕ) : Type 0 where
  pub joins : (first second at : Span) → HasRange (both_ranged (joined at Power) (limited first (from_to base base)) (limited second (from_to exponent exponent))) m

-- the same of two expressions, which ask for no value
pub record PowerReaches (base exponent : Expr) (m : ℕ) : Type 0 where
  pub joins : (r : Bounding) (at : Span) → HasRange (both_ranged (joined at Power) (ranged r base) (ranged r exponent)) m
  pub wide : (format : Format) (s : FormatSizes) → earlier (wide_in format s base) (wide_in format s exponent) ≡ None

-- the expression has such a range, and no part of it asks for a value of more than 64 bits
pub record Reaches (s : FormatSizes) (parameters : List Interval) (e : Expr) (m : ℕ) : Type 0 where
  pub wide : (format : Format) → wide_in format s e ≡ None
  pub ranged : HasRange (ranged (bounding s parameters) e) m

-- so far the expression reaches, and n further
pub record ReachesBeyond (s : FormatSizes) (parameters : List Interval) (e : Expr) (n m : ℕ) : Type 0 where
  pub part : ℕ
  pub reaches : Reaches s parameters e part
  pub sum : m ≡ part + n
  pub limit : m ≤ 2 ^ 120

-- the expression has these operands
pub record HasOperands (s : FormatSizes) (parameters : List Interval) (op : Operator) (e x y : Expr) : Type 0 where
  pub at : Span
  pub wide : (format : Format) → wide_in format s e ≡ earlier (wide_in format s x) (wide_in format s y)
  pub ranged_is : ranged (bounding s parameters) e ≡ both_ranged (joined at op) (ranged (bounding s parameters) x) (ranged (bounding s parameters) y)

-- what reaches k beyond the left operand reaches n beyond the whole
pub record TakesOn (op : Operator) (n : ℕ) (y : Expr) (k : ℕ) : Type 0 where
  pub on : (s : FormatSizes) (parameters : List Interval) (e x : Expr) (m : ℕ) → HasOperands s parameters op e x y → ReachesBeyond s parameters x k m → ReachesBeyond s parameters e n m
