use Rattle.std.specs.Prelude.{string_bytes}
use Rattle.tool_run.proofs.PrintedStepping.{packet_faulted}
use Rattle.tool_run.proofs.packets.refuse_packet.Goals as goal

pub returns : goal.returns
returns c =
    packet_faulted c.args.accepted.now c.args.number c.args.fault _ _ (string_bytes c.in_ok-line.line) _ _ _ c.profile-profile.ensures c.methods.ensures c.in_ok-line.ensures c.keeps.ensures c.as_str.ensures.value c.in_ok-push_line.ensures
