use Rattle.std.proofs.Common.{ℕ, ◌<◌}
use Rattle.sem_graph.specs.Calls.{Marked}
use Rattle.sem_graph.proofs.marks.open.Given as goal

abbrev pub invariant-loop-at : goal.invariant-loop-at
invariant-loop-at l = (k : ℕ) → k < l.at → Marked l.found k → Marked l.done k
