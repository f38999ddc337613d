use Rattle.std.proofs.Common.{arith}
use Rattle.sem_bits.proofs.NumberNexts.{one_look_shows}
use Rattle.sem_bits.proofs.cursor.Cursor.begins_with.Goals as goal

pub returns-in-Some : goal.returns-in-Some
returns-in-Some c =
    one_look_shows c.args.self.now.left c.args.bits.now _ c.in-Some.number c.peek.result _ c.len-in-Some.ensures.value (omega (arith, c.if-len-rest.false, c.len.ensures.value, c.rest.ensures.value)) c.in-Some.ensures c.peek.ensures c.eq.ensures
