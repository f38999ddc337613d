use Rattle.std.proofs.Common.{◌≡◌, ℕ, ◌<◌, length, get_or, []}
use Rattle.sem_graph.specs.Calls.{Reached}
use Rattle.sem_graph.proofs.ranks.table.Given as goal

abbrev pub invariant-loop-from : goal.invariant-loop-from
invariant-loop-from l = (length l.table ≡ l.from) × ((i : ℕ) → i < l.from → Reached l.calls i (get_or l.table i []))
