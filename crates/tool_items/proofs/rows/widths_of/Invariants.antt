use Rattle.std.proofs.Common.{◌≡◌, drop, map}
use Rattle.std.specs.Prelude.{fold}
use Rattle.tool_items.specs.Rows.{no_widths, row_of, widened}
use Rattle.tool_items.proofs.rows.widths_of.Given as goal

abbrev pub invariant-loop-row : goal.invariant-loop-row
invariant-loop-row l = fold widened l.widths (map row_of (drop l.row-index l.rows)) ≡ fold widened no_widths (map row_of l.rows)
