use Rattle.std.proofs.Common.{◌+◌, ◌/◌, inl, inr, refl, length, rules, arith}
use Rattle.walk_session.proofs.Steps.{read_is, received_is}
use Rattle.walk_session.proofs.Writing.{no_room}
use Rattle.walk_session.proofs.unpacker.received_walked.Goals as goal

pub returns-then-not-has_room-clause-fault : goal.returns-then-not-has_room-clause-fault
returns-then-not-has_room-clause-fault c = λ packed count is. record {
  read =
      read_is c.args.accepted.now c.args.context.now packed count c.args.bits.now c.new-cursor.result c.unpack.new.cursor c.in-Ok.field-0 c.in_ok-item-in-Ok.item c.as_slice.result.now c.in_ok-values-in-Ok.values.items _
      is c.new-cursor.ensures c.in-Ok.ensures.read c.in_ok-item-in-Ok.ensures c.as_slice.ensures c.in_ok-values-in-Ok.ensures
      c.len.ensures.value (search rules) refl;
  short = inl (no_room ((c.len.result + 7) / 8) (length c.args.header.now) c.if-not-has_room.ensures.1);
}

pub returns-then-taken-asked-clause-fault : goal.returns-then-taken-asked-clause-fault
returns-then-taken-asked-clause-fault c = λ packed count is. record {
  read =
      read_is c.args.accepted.now c.args.context.now packed count c.args.bits.now c.new-cursor.result c.unpack.new.cursor c.in-Ok.field-0 c.in_ok-item-in-Ok.item c.as_slice.result.now c.in_ok-values-in-Ok.values.items _
      is c.new-cursor.ensures c.in-Ok.ensures.read c.in_ok-item-in-Ok.ensures c.as_slice.ensures c.in_ok-values-in-Ok.ensures
      c.len.ensures.value (search rules) refl;
  short = inr (omega (arith, c.if-taken-asked.true));
}

pub returns-in_ok-advance-in-Ok-clause-ok : goal.returns-in_ok-advance-in-Ok-clause-ok
returns-in_ok-advance-in-Ok-clause-ok c = λ packed count is.
    received_is c.args.accepted.now c.args.context.now c.advance.new.context packed count c.args.bits.now c.new-cursor.result c.unpack.new.cursor c.in-Ok.field-0 c.in_ok-item-in-Ok.item c.as_slice.result.now
    c.in_ok-values-in-Ok.values.items _ c.args.header.now c.write_bits.new.room c.args.asked.now c.put.new.room is c.new-cursor.ensures
    c.in-Ok.ensures.read c.in_ok-item-in-Ok.ensures c.as_slice.ensures c.in_ok-values-in-Ok.ensures c.len.ensures.value (search rules) refl c.write_bits.ensures (search rules) (search rules) (search rules)
