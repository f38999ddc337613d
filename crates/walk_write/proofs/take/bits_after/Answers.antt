use Rattle.walk_write.proofs.WalkingTaken.{next_bits}
use Rattle.walk_write.proofs.take.bits_after.Goals as goal

pub returns-in-Some : goal.returns-in-Some
returns-in-Some c =
    next_bits c.args.source.now.left c.args.ahead c.args.count c.in-Some.number c.peek.result c.from_value.result c.peek.ensures c.in-Some.is c.from_value.ensures
