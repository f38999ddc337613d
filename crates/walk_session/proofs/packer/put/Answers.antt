use Rattle.std.proofs.Common.{◌+◌, ◌/◌, length, rules, arith}
use Rattle.walk_session.proofs.Writing.{no_room}
use Rattle.walk_session.proofs.packer.put.Goals as goal

pub returns-then-not-has_room-clause-fault : goal.returns-then-not-has_room-clause-fault
returns-then-not-has_room-clause-fault c = (
  search rules,
  let short = no_room ((c.len.result + 7) / 8) (length c.args.room.now) c.if-not-has_room.ensures.1 in
      let n = c.len.ensures.value in
      let m = c.len-then-not-has_room.ensures.value in
      omega (arith, n, m, short),
)
