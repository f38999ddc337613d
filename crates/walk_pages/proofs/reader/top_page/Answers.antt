use Rattle.std.proofs.Common.{rules}
use Rattle.walk_pages.proofs.Going.{steady_in}
use Rattle.walk_pages.proofs.reader.top_page.Goals as goal

pub read_top-requires-clause-kept : goal.read_top-requires-clause-kept
read_top-requires-clause-kept c = steady_in c.args.accepted.now c.args.context.now c.methods.result.now c.top-2.result c.args.last (search rules) (search rules) c.requires
