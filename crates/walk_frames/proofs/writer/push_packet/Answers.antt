use Rattle.std.proofs.Common.{ap, ◌+◌, ◌/◌}
use Rattle.walk_frames.proofs.Pushings.{packet_pushed}
use Rattle.walk_frames.proofs.writer.push_packet.Goals as goal

pub returns : goal.returns
returns c =
    packet_pushed c.args.flow ((c.len.result + 7) / 8) c.args.bits.now c.args.out.now.items c.push_reserved.new.self.items c.push_length.new.out.items c.push_bits.new.out.items c.push_bits.ensures.0
    c.push_bits.ensures.1 (ap (λ n. (n + 7) / 8) c.len.ensures.value) c.requires.few c.push_reserved.ensures.items c.push_length.ensures.items c.push_bits.ensures.2
