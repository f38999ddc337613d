-- Conditions without a fault.
use Rattle.std.specs.Prelude.{◌≡◌, List, Option, None}
use Rattle.sem_expr.specs.declared.expr.Expr.{Expr}
use Rattle.sem_expr.specs.declared.expr.Cond.{Cond}
use Rattle.sem_expr.specs.declared.interval.Interval.{Interval}
use Rattle.sem_expr.specs.Ranged.{fault_in}
use Rattle.sem_profile.specs.declared.profile.FormatSizes.{FormatSizes}
use Rattle.sem_profile.specs.declared.profile.Format.{Format}
use Rattle.sem_profile.specs.declared.fault.ProfileFault.{ProfileFault}
use Rattle.sem_profile.specs.declared.extent.Extent.TheVariants.{Whole}
use Rattle.sem_profile.specs.Ranging.{format_ranges}
use Rattle.sem_profile.specs.BoundsFaults.{wide_in_condition, expr_fault}
use Rattle.sem_bounds.specs.Magnitude.{bounding}

-- the fault of an expression, all parts of which are judged under the ranges in the format
abbrev pub judge : FormatSizes → List Interval → Format → Expr → Option ProfileFault
judge s parameters format e = expr_fault Whole format s (format_ranges s parameters) e

-- no part of the condition asks for a value of more than 64 bits, or has no range
pub record IsQuiet (s : FormatSizes) (parameters : List Interval) (c : Cond) : Type 0 where
  pub wide : (format : Format) → wide_in_condition format s c ≡ None
  pub ranged : fault_in (bounding s parameters) c ≡ None
