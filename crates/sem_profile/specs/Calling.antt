-- The arguments of calls, and the parameters of the methods that are called.
use Rattle.std.specs.Prelude.{◌≡◌, ℕ, ℤ, ◌≤ℤ◌, List, length, slice_get, Some, Ok}
use Rattle.sem_expr.specs.declared.expr.Expr.{Expr}
use Rattle.sem_expr.specs.declared.interval.Interval.{Interval}
use Rattle.sem_expr.specs.Values.{Assignment, val}
use Rattle.sem_expr.specs.Rules.{IsIn}
use Rattle.sem_expr.specs.Ranged.{Bounding, ranged}
use Rattle.sem_expr.specs.Spread.{LieIn, IsAccepted}
use Rattle.sem_expr.specs.Bounds.{bounding_of}
use Rattle.sem_profile.specs.declared.profile.FormatSizes.{FormatSizes}
use Rattle.sem_profile.specs.declared.profile.MethodSizes.{MethodSizes}
use Rattle.sem_profile.specs.declared.profile.Encoding.TheVariants as encoding
use Rattle.sem_profile.specs.declared.profile.Field.{Field}
use Rattle.sem_profile.specs.declared.profile.Format.{Format}
use Rattle.sem_profile.specs.declared.profile.Method.{Method}
use Rattle.sem_profile.specs.Ranging.{format_ranges}
use Rattle.sem_profile.specs.Outcome.{AreSizes, FormatAt}

-- a field of the format is a call of the method k, and the expression stands at the place among its arguments
pub record IsArgument (format : Format) (k place : ℕ) (e : Expr) : Type 0 where
  pub field : Field
  pub field_place : ℕ
  pub field_at : slice_get format.fields field_place ≡ Some field
  pub arguments : List Expr
  pub is_call : field.encoding ≡ encoding.Call k arguments
  pub argument_at : slice_get arguments place ≡ Some e

-- the inner interval has no end point beyond those of the outer one
pub record LiesWithin (inner outer : Interval) : Type 0 where
  pub from : outer.from ≤ℤ inner.from
  pub to : inner.to ≤ℤ outer.to

-- the ranges in a format of a method
abbrev pub ranges_in : FormatSizes → MethodSizes → Bounding
ranges_in format method = bounding_of (format_ranges format method.parameters)

-- the parameters of methods take the arguments of all calls
pub record TakeArguments (methods : List Method) (table : List MethodSizes) : Type 0 where
  -- a method has a range for each of its parameters
  pub each : (k : ℕ) (m : Method) (t : MethodSizes) → slice_get methods k ≡ Some m → slice_get table k ≡ Some t → length t.parameters ≡ length m.parameters
  -- each argument has a range
  pub accepted : (m : Method) (format : Format) (s : MethodSizes) (sizes : FormatSizes) → FormatAt methods table m format s sizes →
      (k q : ℕ) (e : Expr) → IsArgument format k q e → IsAccepted (ranges_in sizes s) e
  -- it lies in the range of the parameter at its place
  pub range_within : (m : Method) (format : Format) (s : MethodSizes) (sizes : FormatSizes) → FormatAt methods table m format s sizes →
      (k q : ℕ) (e : Expr) → IsArgument format k q e → (t : MethodSizes) (i p : Interval) →
      slice_get table k ≡ Some t → ranged (ranges_in sizes s) e ≡ Ok i → slice_get t.parameters q ≡ Some p → LiesWithin i p
  -- under numbers in the ranges of the caller's format, the argument's value lies in the parameter's range in each format of the called method
  pub value_within : (m : Method) (format : Format) (s : MethodSizes) (sizes : FormatSizes) → FormatAt methods table m format s sizes →
      (k q : ℕ) (e : Expr) → IsArgument format k q e → (a : Assignment) (v : ℤ) (t : MethodSizes) (called : FormatSizes) →
      slice_get table k ≡ Some t → LieIn a (ranges_in sizes s) → val a e ≡ Some v → IsIn ((ranges_in called t).parameter q) v

-- where the table holds bounds and ranges, its parameters take the arguments
abbrev pub ArgumentsLieInParameters : Type 0
ArgumentsLieInParameters = (methods : List Method) (table : List MethodSizes) → AreSizes methods table → TakeArguments methods table
