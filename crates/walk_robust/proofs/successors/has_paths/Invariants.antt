use Rattle.std.specs.Map.{keys_of}
use Rattle.sem_context.specs.Placing.{shown}
use Rattle.walk_robust.proofs.Sparing.{AreSameTo}
use Rattle.walk_robust.proofs.successors.has_paths.Given as goal

-- the paths at the places so far are the same
abbrev pub invariant-loop-place : goal.invariant-loop-place
invariant-loop-place l = AreSameTo (keys_of l.context) (keys_of (shown l.left)) l.place
