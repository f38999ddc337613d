-- The ranges of expressions while nothing is known of attributes and parameters.
pub use Rattle.sem_profile.specs.Faults.{of_range}
use Rattle.std.specs.Prelude.{Result}
use Rattle.sem_expr.specs.declared.expr.Expr.{Expr}
use Rattle.sem_expr.specs.declared.interval.Interval.{Interval}
use Rattle.sem_expr.specs.declared.fault.RangeFault.{RangeFault}
use Rattle.sem_expr.specs.Bounds.{anything, bounding_of}
use Rattle.sem_expr.specs.Ranged.{ranged}

abbrev pub range_of : Expr → Result Interval RangeFault
range_of e = ranged (bounding_of anything) e
