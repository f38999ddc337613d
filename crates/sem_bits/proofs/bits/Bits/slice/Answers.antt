use Rattle.std.proofs.Common.{arith}
use Rattle.sem_bits.proofs.Words.{part_spelled}
use Rattle.sem_bits.proofs.bits.Bits.slice.Goals as goal

pub invariant_of-result : goal.invariant_of-result
invariant_of-result c = (
  c.in-Some.ensures.0.0,
  (part_spelled c.args.self.now c.args.from c.args.to c.in-Some.word (omega (arith, c.if-from-to.false)) (omega (arith, c.if-to-len.false, c.len.ensures.value)) c.in-Some.ensures.1).0,
)

pub returns-in-Some : goal.returns-in-Some
returns-in-Some c = (
  (omega (arith, c.if-from-to.false), omega (arith, c.if-to-len.false, c.len.ensures.value)),
  (part_spelled c.args.self.now c.args.from c.args.to c.in-Some.word (omega (arith, c.if-from-to.false)) (omega (arith, c.if-to-len.false, c.len.ensures.value)) c.in-Some.ensures.1).1,
)
