use Rattle.std.proofs.Common.{◌≡◌, drop}
use Rattle.std.specs.Prelude.{fold, max}
use Rattle.tool_names.specs.Table.{cell_length, width}
use Rattle.tool_names.proofs.table.width.Given as goal

abbrev pub invariant-loop-row : goal.invariant-loop-row
invariant-loop-row l = fold (λ most row. max most (cell_length row l.column)) l.most (drop l.row-index l.rows) ≡ width l.rows l.column
