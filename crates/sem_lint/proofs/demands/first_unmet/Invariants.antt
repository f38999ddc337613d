use Rattle.std.proofs.Common.{ℕ, ◌<◌}
use Rattle.sem_expr.specs.Bounds.{bounding_of}
use Rattle.sem_lint.specs.Demands.{IsUnmetAt}
use Rattle.sem_filling.specs.declared.obstacle.Unmet.{Unmet}
use Rattle.sem_lint.proofs.demands.first_unmet.Given as goal

abbrev pub invariant-loop-field : goal.invariant-loop-field
invariant-loop-field l = (i : ℕ) (u : Unmet) → i < l.field → IsUnmetAt l.fields (bounding_of l.ranges) i u → ⊥
