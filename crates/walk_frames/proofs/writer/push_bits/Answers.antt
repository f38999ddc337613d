use Rattle.std.proofs.Common.{◌+◌, ◌/◌, ◌≤◌, ◌<◌, length, vec_len, vec_capacity, arith}
use Rattle.walk_line.proofs.SenderPushing.{all_pushed, none_pushed, one_pushed}
use Rattle.walk_frames.proofs.writer.push_bits.Goals as goal

pub loop-place-init : goal.loop-place-init
loop-place-init c = (none_pushed c.args.bits.now c.args.out.now.items, omega (arith, c.requires))

pub push_reserved-requires : goal.push_reserved-requires
push_reserved-requires c =
    let room : vec_len c.loop-place.out + (length c.args.bits.now + 7) / 8 ≤ vec_capacity c.loop-place.out + c.loop-place.place = c.loop-place.invariant.1 in
    let more : c.loop-place.place < (c.len.result + 7) / 8 = c.loop-place-test.true in
    omega (arith, c.len.ensures.value, room, more)

pub loop-place-preserved : goal.loop-place-preserved
loop-place-preserved c = (
  one_pushed c.args.bits.now c.loop-place.place c.in-Some.octet c.args.out.now.items c.loop-place.out.items c.push_reserved.new.self.items c.in-Some.ensures.0 c.in-Some.ensures.1 c.loop-place.invariant.0 c.push_reserved.ensures.items,
  omega (arith, c.loop-place.invariant.1, c.push_reserved.ensures.len, c.push_reserved.ensures.capacity),
)

pub returns : goal.returns
returns c = all_pushed c.args.bits.now c.loop-place.place c.args.out.now.items c.loop-place.out.items (omega (arith, c.len.ensures.value, c.loop-place-test.false, c.loop-place.auto.place-end)) c.loop-place.invariant.0
