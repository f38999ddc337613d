use Rattle.std.proofs.Common.{◌≡◌, ◌∷◌, ◌++◌, drop, map, string_bytes}
use Rattle.std.specs.Prelude.{flat_map}
use Rattle.tool_items.specs.Rows.{line_text, row_of}
use Rattle.tool_names.specs.Table.{table}
use Rattle.tool_items.proofs.rows.push_rows.Given as goal

abbrev pub invariant-loop-row : goal.invariant-loop-row
invariant-loop-row l = string_bytes l.output ++ flat_map (line_text l.widths) (drop l.row-index l.rows) ≡ string_bytes l.fn.output ++ table (map row_of l.rows)
