use Rattle.std.proofs.Common.{ℕ, ◌<◌}
use Rattle.sem_expr.specs.declared.expr.Side.{Side}
use Rattle.sem_lint.specs.Obstacles as spec
use Rattle.sem_lint.proofs.lengths.no_length.Given as goal

abbrev pub invariant-loop-field : goal.invariant-loop-field
invariant-loop-field l = (i : ℕ) (side : Side) → i < l.field → spec.HasNoLength l.sizes i side → ⊥
