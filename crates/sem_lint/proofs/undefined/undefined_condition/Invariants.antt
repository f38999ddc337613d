use Rattle.std.proofs.Common.{◌≡◌, drop}
use Rattle.sem_expr.specs.Bounds.{bounding_of}
use Rattle.sem_lint.specs.Undefined.{undefined_condition}
use Rattle.sem_lint.proofs.undefined.undefined_condition.Given as goal

abbrev pub invariant-loop-constraint : goal.invariant-loop-constraint
invariant-loop-constraint l = undefined_condition (bounding_of l.ranges) (drop l.constraint-index l.constraints) ≡ undefined_condition (bounding_of l.fn.ranges) l.fn.constraints
