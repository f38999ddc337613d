use Rattle.tool_items.proofs.StatsInside.{FormatsSoFar}
use Rattle.tool_items.proofs.stats.add_formats.Given as goal

abbrev pub invariant-loop-number : goal.invariant-loop-number
invariant-loop-number l = FormatsSoFar l.methods l.top l.sums l.format-items l.number l.fn.rows l.rows
