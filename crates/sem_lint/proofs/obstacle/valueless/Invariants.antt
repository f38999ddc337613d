use Rattle.std.proofs.Common.{ℕ, ◌<◌}
use Rattle.text_source.specs.declared.span.Span.{Span}
use Rattle.sem_expr.specs.Bounds.{bounding_of}
use Rattle.sem_lint.specs.Obstacles.{LacksAt}
use Rattle.sem_lint.proofs.obstacle.valueless.Given as goal

abbrev pub invariant-loop-field : goal.invariant-loop-field
invariant-loop-field l = (i : ℕ) (at : Span) → i < l.field → LacksAt l.fields (bounding_of l.ranges) i at → ⊥
