use Rattle.std.specs.Prelude.{◌≡◌, ◌++◌, drop}
use Rattle.tool_items.specs.Stats.{cells_of_all}
use Rattle.tool_items.proofs.stats.add_cells.Given as goal

abbrev pub invariant-loop-row : goal.invariant-loop-row
invariant-loop-row l = l.cells ++ cells_of_all (drop l.row-index l.rows) ≡ l.fn.cells ++ cells_of_all l.rows
