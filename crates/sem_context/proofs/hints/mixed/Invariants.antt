use Rattle.std.proofs.Common.{length}
use Rattle.sem_context.proofs.hints.mixed.Given as goal

abbrev pub invariant-loop-eight : goal.invariant-loop-eight
invariant-loop-eight l = Unit {0}

abbrev pub decreases-loop-eight : goal.decreases-loop-eight
decreases-loop-eight l = length l.rest
