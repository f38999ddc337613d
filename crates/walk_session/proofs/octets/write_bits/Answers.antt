use Rattle.std.proofs.Common.{◌+◌, ◌/◌, ◌<◌, rules, arith}
use Rattle.std.proofs.lemmas.List.{length-set}
use Rattle.walk_session.proofs.Writing.{one_written, all_written}
use Rattle.walk_session.proofs.octets.write_bits.Goals as goal

pub loop-place-preserved : goal.loop-place-preserved
loop-place-preserved c = (
  one_written c.args.bits.now c.loop-place.place c.in-Some.octet c.args.room.now c.loop-place.room c.in-Some.ensures.0
      (let more : c.loop-place.place < (c.len.result + 7) / 8 = c.loop-place-test.true in omega (arith, c.len.ensures.value, c.requires)) c.in-Some.ensures.1 c.loop-place.invariant.0,
  search (rules, length-set, c.loop-place.invariant.1),
)

pub returns : goal.returns
returns c = all_written c.args.bits.now c.loop-place.place c.args.room.now c.loop-place.room (omega (arith, c.len.ensures.value, c.loop-place-test.false, c.loop-place.auto.place-end)) (omega (arith, c.len.ensures.value, c.requires, c.loop-place.auto.place-end)) c.loop-place.invariant.0
