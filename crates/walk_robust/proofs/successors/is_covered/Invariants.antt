use Rattle.sem_context.specs.Placing.{shown}
use Rattle.walk_robust.proofs.Comings.{CoveredTo}
use Rattle.walk_robust.proofs.successors.is_covered.Given as goal

abbrev pub invariant-loop-place : goal.invariant-loop-place
invariant-loop-place l = CoveredTo (shown l.left) l.context l.place
