use Rattle.sem_context.specs.Placing.{shown}
use Rattle.walk_robust.proofs.Comings.{HoldsTo}
use Rattle.walk_robust.proofs.successors.holds_outside.Given as goal

abbrev pub invariant-loop-place : goal.invariant-loop-place
invariant-loop-place l = HoldsTo (shown l.left) l.one l.other l.place
