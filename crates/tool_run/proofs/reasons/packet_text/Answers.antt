use Rattle.std.specs.Prelude.{string_bytes}
use Rattle.tool_run.proofs.PrintedStepping.{packet_explained}
use Rattle.tool_run.proofs.reasons.packet_text.Goals as goal

pub returns : goal.returns
returns c =
    packet_explained c.args.octets.now c.args.accepted.now c.args.context.now c.args.refused.number c.args.refused.packet.now c.args.refused.fault c.requires _ _ c.profile-profile.ensures c.methods.ensures c.keeps.ensures
    (string_bytes c.in_ok-text.text) _ c.in_ok-text.ensures _ _ c.in_ok-lines.ensures c.as_slice.ensures c.in_ok-push_reasons.ensures
