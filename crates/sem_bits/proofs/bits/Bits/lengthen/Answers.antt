use Rattle.std.proofs.Common.{ap, length, arith, length-append}
use Rattle.sem_bits.proofs.Words.{counted}
use Rattle.sem_bits.proofs.bits.Bits.lengthen.Goals as goal

pub invariant_of-self-in-Long : goal.invariant_of-self-in-Long
invariant_of-self-in-Long c =
    let held = rw c.in-Long.is at c.self.invariant in
    let own = counted _ _ _ c.self.view_is c.self.invariant in
    let others = counted _ _ _ c.other.view_is c.other.invariant in
    let more = ap length c.in_ok-end-in-Long.ensures.ok in
    let sum = length-append c.deref_mut.result.now c.args.other.now in (
      omega (arith, held.0, others, more, sum, ap length c.deref_mut.ensures.value),
      omega (arith, own, others, c.requires.more),
      omega (arith, own, others, c.requires.fit),
    )
