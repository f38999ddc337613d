use Rattle.cert_prove.proofs.MadeLacking.{read_there}
use Rattle.cert_prove.proofs.entries.format_entry.Goals as goal

pub format_plan-requires-2 : goal.format_plan-requires-2
format_plan-requires-2 c = read_there c.args.version c.args.table.now c.args.sizes.now c.args.format.now c.in-Ok.steps c.in-Ok.ensures.ordered c.in-Ok.ensures.kept
