use Rattle.std.proofs.Common.{◌∙◌, ap, subst, ◌++◌}
use Rattle.sem_profile.specs.Resolved.{IsSound}
use Rattle.walk_frames.specs.Frames.{frame_octets, packet}
use Rattle.walk_frames.proofs.Puttings.{packet_put, sent_short}
use Rattle.walk_frames.proofs.sender.put_packet.Goals as goal

pub push_packet-requires-clause-few : goal.push_packet-requires-clause-few
push_packet-requires-clause-few c =
    sent_short c.args.accepted.now c.keeps.ensures (subst IsSound c.profile-profile.ensures c.keeps-2.ensures) c.args.sender.now c.pack.new.self c.args.item.now c.in-Ok-pack.found c.in-Ok-pack.ensures.sent

pub returns-in-Ok-pack-clause-ok : goal.returns-in-Ok-pack-clause-ok
returns-in-Ok-pack-clause-ok c =
    let put = c.push_packet.ensures in
    packet_put c.args.accepted.now c.args.flow c.args.sender.now c.pack.new.self c.args.item.now c.in-Ok-pack.found c.args.out.now.items c.push_packet.new.out.items put.0 c.requires c.in-Ok-pack.ensures.sent put.1 put.2
    (put.3 ∙ ap (λ z. z ++ frame_octets (packet c.args.flow put.0)) c.in-Ok.ensures.items)
