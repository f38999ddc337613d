use Rattle.tool_run.proofs.PrintedReplying.{finished_at, finished_plain}
use Rattle.std.proofs.Common.{true}
use Rattle.tool_run.proofs.packets.finish.Goals as goal

pub returns-then-shows : goal.returns-then-shows
returns-then-shows c = finished_at c.args.shows true c.args.context.now _ c.with_context.result c.if-shows.true c.with_context.ensures

pub returns-else-shows : goal.returns-else-shows
returns-else-shows c = finished_plain c.args.shows c.args.context.now c.args.output c.if-shows.false
