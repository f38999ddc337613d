use Rattle.tool_run.proofs.PrintedStepping.{packet_blamed, read_step}
use Rattle.tool_run.proofs.packets.unpack_one.Goals as goal

pub returns-in_ok-advance-in-Ok : goal.returns-in_ok-advance-in-Ok
returns-in_ok-advance-in-Ok c =
    read_step c.args.shape c.args.accepted.now c.args.context.now _ _ _ c.args.number c.args.packet.now _ _ c.in-Ok.field-0 c.new-cursor.ensures c.in-Ok.ensures.read c.in_ok-push_found-in-Ok.ensures c.in_ok-advance-in-Ok.ensures.ok

pub stop_packet-requires : goal.stop_packet-requires
stop_packet-requires c = packet_blamed c.args.accepted.now c.args.context.now c.args.packet.now _ c.in-Err.fault c.new-cursor.ensures c.in-Err.ensures.fault
