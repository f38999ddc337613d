-- The faults of ranges, of all parts of an expression or of those that hold no parameter without a range. A parameter has none where its interval is beyond the limit.
pub use Rattle.sem_expr.specs.Ranged.{first_fault}
use Rattle.std.specs.Prelude.{Bool, false, ◌||◌, Option, None, if◌then◌else◌}
use Rattle.std.specs.Result.{result_err, is_err}
use Rattle.sem_expr.specs.declared.expr.Expr.{Expr}
use Rattle.sem_expr.specs.declared.expr.Expr.TheVariants as expr
use Rattle.sem_expr.specs.declared.expr.Expr.TheVariants.{Number, Parameter, Binary'}
use Rattle.sem_expr.specs.declared.expr.Cond.{Cond}
use Rattle.sem_expr.specs.declared.expr.Cond.TheVariants.{Constant, Compare, Not', And', Or'}
use Rattle.sem_expr.specs.declared.fault.RangeFault.{RangeFault}
use Rattle.sem_expr.specs.Ranged.{Bounding, ranged, fault_in}
use Rattle.sem_profile.specs.declared.extent.Extent.{Extent}
use Rattle.sem_profile.specs.declared.extent.Extent.TheVariants.{Whole, Known}

-- the expression holds a parameter without a range
abbrev pub lacks : Bounding → Expr → Bool
lacks r (Number s n) = false
lacks r (Parameter s i) = is_err (ranged r (Parameter s i))
lacks r (expr.Attribute s t) = false
lacks r (Binary' s op p x q y) = lacks r x || lacks r y

-- the first fault, where what holds such a parameter isn't judged, and what stands beside it is
abbrev pub known_fault : Bounding → Expr → Option RangeFault
known_fault r (Number s n) = result_err (ranged r (Number s n))
known_fault r (Parameter s i) = None
known_fault r (expr.Attribute s t) = result_err (ranged r (expr.Attribute s t))
known_fault r (Binary' s op p x q y) =
    if lacks r (Binary' s op p x q y) then first_fault (known_fault r x) (known_fault r y) else result_err (ranged r (Binary' s op p x q y))

abbrev pub known_condition_fault : Bounding → Cond → Option RangeFault
known_condition_fault r (Constant s b) = None
known_condition_fault r (Compare s op x y) = first_fault (known_fault r x) (known_fault r y)
known_condition_fault r (Not' s p x) = known_condition_fault r x
known_condition_fault r (And' s p x q y) = first_fault (known_condition_fault r x) (known_condition_fault r y)
known_condition_fault r (Or' s p x q y) = first_fault (known_condition_fault r x) (known_condition_fault r y)

abbrev pub range_fault : Extent → Bounding → Expr → Option RangeFault
range_fault Whole r e = result_err (ranged r e)
range_fault Known r e = known_fault r e

abbrev pub condition_range_fault : Extent → Bounding → Cond → Option RangeFault
condition_range_fault Whole r c = fault_in r c
condition_range_fault Known r c = known_condition_fault r c
