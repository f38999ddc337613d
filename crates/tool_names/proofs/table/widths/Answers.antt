use Rattle.tool_names.specs.Table.{width}
use Rattle.tool_names.proofs.TableLists.{one_more}
use Rattle.tool_names.proofs.table.widths.Goals as goal

pub loop-column-preserved : goal.loop-column-preserved
loop-column-preserved c =
    one_more (width c.args.rows.now) _ _ _ _ _ _ _ c.columns-column-end.ensures c.loop-column-test.true c.width.ensures c.in_ok-push.ensures.ok c.loop-column.invariant
