use Rattle.std.proofs.Common.{ℕ, List}
use Rattle.sem_expr.specs.declared.interval.Interval.{Interval}
use Rattle.sem_profile.specs.declared.profile.FormatSizes.{FormatSizes}
use Rattle.sem_bounds.specs.Magnitude.{ReachesBeyond}
use Rattle.sem_bounds.proofs.magnitude.sum_reach.Given as goal

abbrev pub invariant-operand : goal.invariant-operand
invariant-operand l = (sizes : FormatSizes) (parameters : List Interval) (m : ℕ) → ReachesBeyond sizes parameters l.rest l.number m → ReachesBeyond sizes parameters l.fn.expr 0 m
