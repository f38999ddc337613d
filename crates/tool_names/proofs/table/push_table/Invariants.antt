use Rattle.std.proofs.Common.{◌≡◌, ◌∷◌, ◌++◌, drop, string_bytes}
use Rattle.std.specs.Prelude.{flat_map}
use Rattle.tool_names.specs.Table.{cells_text, table, widths}
use Rattle.tool_names.proofs.table.push_table.Given as goal

abbrev pub invariant-loop-row : goal.invariant-loop-row
invariant-loop-row l = string_bytes l.output ++ flat_map (λ row. 10 ∷ cells_text (widths l.rows) 0 0 row) (drop l.row-index l.rows) ≡ string_bytes l.fn.output ++ table l.rows
