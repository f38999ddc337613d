use Rattle.std.proofs.Common.{◌∙◌, ◌++◌, ap, string_bytes}
use Rattle.std.specs.Prelude.{flat_map}
use Rattle.tool_items.specs.Rows.{line_text}
use Rattle.tool_items.proofs.RowsPlaced.{table_is}
use Rattle.tool_items.proofs.rows.push_rows.Goals as goal

pub loop-row-init : goal.loop-row-init
loop-row-init c = ap (λ t. string_bytes c.args.output.now ++ t) (ap (λ w. flat_map (line_text w) c.args.rows.now) c.in_ok-widths.ensures ∙ table_is c.args.rows.now)
