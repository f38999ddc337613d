use Rattle.std.proofs.Common.{◌∙◌, refl, sym, rules, ◌<◌, ◌≡◌, [], ◌∷◌, length, arith}
use Rattle.std.specs.Prelude.{slice_get, Some}
use Rattle.std.proofs.lemmas.List.{append-nil}
use Rattle.std.proofs.lemmas.Option.{slice_get_read}
use Rattle.walk_frames.specs.Frames.{overlong, packet}
use Rattle.walk_frames.specs.Fronts.{body}
use Rattle.walk_frames.specs.declared.given.Given.TheVariants as given
use Rattle.walk_frames.specs.declared.given.PacketRefusal.TheVariants.{Length}
use Rattle.walk_frames.proofs.Takings.{overlong_taken, packet_taken, reset_taken, some_octets}
use Rattle.walk_frames.proofs.receiver.take_frame.Goals as goal

pub returns-in-Reset-clause-some : goal.returns-in-Reset-clause-some
returns-in-Reset-clause-some c =
    let stands = rw c.in-Reset.is at c.front_of.ensures in (
      [],
      sym (append-nil c.args.out.now.items),
      omega arith,
      reset_taken c.args.accepted.now c.args.contexts.now.items c.args.octets.now c.in-Reset.flow c.from.result c.new.result c.requires stands c.from.ensures c.new.ensures,
    )

pub returns-in-Ok-clause-some : goal.returns-in-Ok-clause-some
returns-in-Ok-clause-some c =
    let front = rw c.in-Overlong.is at c.front_of.ensures in (
      (c.in-Overlong.flow, given.Refused Length) ∷ [],
      c.in-Ok.ensures.ok,
      some_octets c.args.octets.now (overlong c.in-Overlong.flow (body c.args.octets.now c.in-Overlong.field-1 c.in-Overlong.to)) c.in-Overlong.to front.2,
      overlong_taken c.args.accepted.now c.args.contexts.now.items c.args.octets.now (body c.args.octets.now c.in-Overlong.field-1 c.in-Overlong.to) c.in-Overlong.flow c.in-Overlong.to c.requires front.2,
    )

pub returns-in-Ok-give-clause-some : goal.returns-in-Ok-give-clause-some
returns-in-Ok-give-clause-some c =
    let front = rw c.in-Packet.is at c.front_of.ensures in
    let b = body c.args.octets.now c.in-Packet.from c.in-Packet.to in
    let small = front.2.is_frame.0 in
    let place : c.from-in-Packet.result ≡ c.in-Packet.flow = c.from-in-Packet.ensures in
    let count : length c.args.contexts.now.items ≡ 64 = c.requires in
    let there : slice_get c.args.contexts.now.items c.from-in-Packet.result ≡ Some c.index_mut-context.result.now =
    slice_get_read c.args.contexts.now.items (length c.args.contexts.now.items) c.from-in-Packet.result c.index_mut-context.result.now refl (omega (arith, small, place, count)) c.index_mut-context.ensures.value in (
      (c.in-Packet.flow, c.in_ok-given-in-Packet.given) ∷ [],
      c.in-Ok-give.ensures.ok,
      some_octets c.args.octets.now (packet c.in-Packet.flow b) c.in-Packet.to front.2,
      packet_taken c.args.accepted.now c.args.contexts.now.items c.args.octets.now b b c.in-Packet.flow c.from-in-Packet.result c.in-Packet.to c.index_mut-context.result.now c.judge.new.context c.in_ok-given-in-Packet.given
          front.2 place there refl c.in_ok-given-in-Packet.ensures,
    )
