use Rattle.std.specs.Prelude.{drop}
use Rattle.tool_items.specs.Nearest.{IsWalk}
use Rattle.tool_items.proofs.nearest.best_window.Given as goal

abbrev pub invariant-loop-entry : goal.invariant-loop-entry
invariant-loop-entry l = IsWalk l.bits l.entries (drop l.entry-index l.entries) l.walk
