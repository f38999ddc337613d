use Rattle.std.proofs.Common.{ℕ, ◌<◌}
use Rattle.sem_lint.specs.Marks.{CallsMarked}
use Rattle.sem_lint.proofs.obstacle.marked_call.Given as goal

abbrev pub invariant-loop-field : goal.invariant-loop-field
invariant-loop-field l = (i : ℕ) → i < l.field → CallsMarked l.marks l.fields i → ⊥
