use Rattle.std.proofs.Common.{refl}
use Rattle.tool_run.proofs.SenderLemmas.{of_item}
use Rattle.tool_run.proofs.PrintedTallying.{one_counted, one_refused}
use Rattle.tool_run.proofs.stats.count_one.Goals as goal

pub returns-in-Ok : goal.returns-in-Ok
returns-in-Ok c = one_counted c.args.accepted.now c.args.counting c.args.sender.now _ c.args.told.now _ c.args.number c.args.item.now c.in-Ok.sent c.add_packed.result c.in-Ok.ensures.sent c.add_packed.ensures

pub returns-in-Err : goal.returns-in-Err
returns-in-Err c = one_refused c.args.accepted.now c.args.counting c.args.sender.now _ c.args.told.now _ c.args.number c.args.item.now c.in-Err.fault c.add_refused.result c.in-Err.ensures.stays refl refl c.in-Err.ensures.fault c.add_refused.ensures

pub add_refused-requires : goal.add_refused-requires
add_refused-requires c = of_item c.args.accepted.now c.args.sender.now c.args.item.now c.in-Err.fault c.in-Err.ensures.fault
