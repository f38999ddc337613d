use Rattle.std.proofs.Common.{◌≡◌, ◌<◌, ℕ}
use Rattle.std.specs.Prelude.{None}
use Rattle.sem_expr.specs.Bounds.{bounding_of}
use Rattle.sem_reasons.specs.Reasons.{undefined_at}
use Rattle.sem_reasons.proofs.verdicts.told_by_truth.Given as goal

abbrev pub invariant-loop-number : goal.invariant-loop-number
invariant-loop-number l = (j : ℕ) → j < l.number → undefined_at (bounding_of l.sighted.ranges.now) l.sighted.look.format.now.constraints j ≡ None
