use Rattle.std.proofs.Common.{rules}
use Rattle.walk_pages.proofs.Going.{steady_in}
use Rattle.walk_pages.proofs.writer.top_page.Goals as goal

pub write_top-requires-clause-kept : goal.write_top-requires-clause-kept
write_top-requires-clause-kept c = steady_in c.args.accepted.now c.args.context.now c.methods.result.now c.top.result c.args.last (search rules) (search rules) c.requires
