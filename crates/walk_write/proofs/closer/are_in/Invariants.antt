use Rattle.std.proofs.Common.{◌<◌, ℕ}
use Rattle.walk_write.specs.Closer.{LiesAt}
use Rattle.walk_write.proofs.closer.are_in.Given as goal

abbrev pub invariant-loop-i : goal.invariant-loop-i
invariant-loop-i l = (j : ℕ) → j < l.i → LiesAt l.ranges l.numbers j
