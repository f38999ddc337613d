use Rattle.std.proofs.Common.{◌≡◌, ◌++◌, drop, string_bytes}
use Rattle.tool_names.specs.Table.{cells_text}
use Rattle.tool_names.proofs.table.push_cells.Given as goal

abbrev pub invariant-loop-column : goal.invariant-loop-column
invariant-loop-column l = string_bytes l.output ++ cells_text l.widths l.column l.gap (drop l.column l.row) ≡ string_bytes l.fn.output ++ cells_text l.widths 0 0 l.row
