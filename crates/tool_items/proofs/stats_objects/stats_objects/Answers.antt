use Rattle.tool_items.proofs.StatsObjectsTold.{told}
use Rattle.tool_items.proofs.stats_objects.stats_objects.Goals as goal

pub returns : goal.returns
returns c = told c.args.methods.now c.args.top c.args.sums.now _ _ c.counted_objects.result (λ fs are. c.in_ok-rows.ensures fs are) c.as_slice.ensures c.counted_objects.ensures
