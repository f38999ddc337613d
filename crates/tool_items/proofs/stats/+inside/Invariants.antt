use Rattle.tool_items.proofs.StatsInside.{FieldsSoFar, InsideSoFar}
use Rattle.tool_items.proofs.stats.+inside.Given as goal

abbrev pub invariant-add_fields-loop-place : goal.invariant-add_fields-loop-place
invariant-add_fields-loop-place l = FieldsSoFar l.format.methods.now l.format.method l.format.number l.depth l.sums l.listing l.place l.fn.rows l.rows

abbrev pub invariant-add_inside-loop-number : goal.invariant-add_inside-loop-number
invariant-add_inside-loop-number l = InsideSoFar l.methods l.method l.depth l.sums l.format-items l.number l.fn.rows l.rows
