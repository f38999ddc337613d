use Rattle.tool_run.proofs.PrintedStepping.{no_flow_blamed, packed_step}
use Rattle.tool_run.proofs.packets.pack_one.Goals as goal

pub returns-in_ok-advance-in-Ok : goal.returns-in_ok-advance-in-Ok
returns-in_ok-advance-in-Ok c =
    packed_step c.args.shape c.args.accepted.now c.args.context.now _ _ _ c.args.number c.args.item.now c.in-Ok.field-0 c.in-Ok.ensures.packed c.in_ok-push_written-in-Ok.ensures c.in_ok-advance-in-Ok.ensures.ok

pub stop_item-requires : goal.stop_item-requires
stop_item-requires c = record { flow = no_flow_blamed c.args.accepted.now c.args.context.now c.args.item.now c.in-Err.fault c.in-Err.ensures.fault; blames = c.in-Err.ensures.fault }
