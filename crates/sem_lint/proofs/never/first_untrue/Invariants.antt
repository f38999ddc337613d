use Rattle.std.proofs.Common.{ℕ, ◌<◌}
use Rattle.sem_expr.specs.Bounds.{bounding_of}
use Rattle.sem_lint.specs.Never as spec
use Rattle.sem_lint.proofs.never.first_untrue.Given as goal

abbrev pub invariant-loop-number : goal.invariant-loop-number
invariant-loop-number l = (j : ℕ) → j < l.number → spec.IsUntrue l.constraints (bounding_of l.ranges) j → ⊥
