use Rattle.tool_run.proofs.PrintedTallying.{rows_text, sums_text}
use Rattle.tool_run.proofs.stats.counts_text.Goals as goal

pub returns-then-counting : goal.returns-then-counting
returns-then-counting c = rows_text c.args.accepted.now c.args.counting c.args.told.now _ c.listed_text.result c.if-counting.true c.as_str.ensures.value c.listed_text.ensures

pub returns : goal.returns
returns c = sums_text c.args.accepted.now c.args.counting _ _ _ c.args.told.now c.counted_in.result c.if-counting.false c.profile-profile.ensures c.methods.ensures c.top.ensures c.counted_in.ensures
