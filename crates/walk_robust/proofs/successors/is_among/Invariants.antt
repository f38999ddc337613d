use Rattle.sem_context.specs.Placing.{shown}
use Rattle.sem_filling.proofs.Each.{Before}
use Rattle.walk_robust.specs.Sending.{SameOutside}
use Rattle.walk_robust.proofs.successors.is_among.Given as goal

-- none so far is the same
abbrev pub invariant-loop-i : goal.invariant-loop-i
invariant-loop-i l = Before (λ j g. SameOutside (shown l.left) g.context l.context → ⊥) l.found l.i
