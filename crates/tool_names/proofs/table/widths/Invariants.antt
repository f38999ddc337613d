use Rattle.std.proofs.Common.{◌≡◌, ◌-◌, ◌++◌, map}
use Rattle.std.specs.List.{range_with_len}
use Rattle.tool_names.specs.Table.{columns, width, widths}
use Rattle.tool_names.proofs.table.widths.Given as goal

abbrev pub invariant-loop-column : goal.invariant-loop-column
invariant-loop-column l = l.widths ++ map (width l.rows) (range_with_len l.column (columns l.rows - l.column)) ≡ widths l.rows
