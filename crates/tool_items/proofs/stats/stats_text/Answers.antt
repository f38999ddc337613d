use Rattle.tool_items.proofs.StatsInside.{text_made}
use Rattle.tool_items.proofs.stats.stats_text.Goals as goal

pub returns : goal.returns
returns c = λ fs are. text_made c.args.methods.now c.args.top c.args.sums.now fs _ _ _ _ c.in_ok-text.ensures (λ gs so. c.in_ok-rows.ensures gs so) c.as_slice.ensures c.in_ok-push_counted.ensures are
