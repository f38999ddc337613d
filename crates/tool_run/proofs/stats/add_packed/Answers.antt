use Rattle.std.proofs.Common.{refl}
use Rattle.tool_run.proofs.PrintedTallying.{packed_told}
use Rattle.tool_run.proofs.stats.add_packed.Goals as goal

pub returns : goal.returns
returns c = packed_told c.args.accepted.now c.args.counting c.args.number c.args.sent.now c.args.told.now _ c.add_row.result c.in_ok-add.ensures c.add_row.ensures refl
