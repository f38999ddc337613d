use Rattle.tool_run.proofs.SenderLemmas.{of_item}
use Rattle.tool_run.proofs.PrintedAdvising.{one_packed, one_refused}
use Rattle.tool_run.proofs.advise.trace_one.Goals as goal

pub returns-in-Ok : goal.returns-in-Ok
returns-in-Ok c = one_packed c.args.accepted.now c.args.sender.now _ _ _ _ c.args.number c.args.item.now c.in-Ok.sent c.add.result c.in-Ok.ensures.sent c.add.ensures

pub returns-in-Err : goal.returns-in-Err
returns-in-Err c = one_refused c.args.accepted.now c.args.sender.now _ _ _ _ c.args.number c.args.item.now c.in-Err.fault c.add_refused.result c.in-Err.ensures.stays c.in-Err.ensures.fault c.add_refused.ensures

pub add_refused-requires : goal.add_refused-requires
add_refused-requires c = of_item c.args.accepted.now c.args.sender.now c.args.item.now c.in-Err.fault c.in-Err.ensures.fault
