use Rattle.std.proofs.Common.{arith, ap, length}
use Rattle.sem_bits.proofs.OctetsKept.{kept_count}
use Rattle.sem_bits.proofs.long.Long.slice.Goals as goal

pub cut-requires-clause-within : goal.cut-requires-clause-within
cut-requires-clause-within c = omega (arith, ap length c.as_slice.ensures, kept_count _ _ c.self.invariant, c.self.invariant.counted, c.len.ensures.value, c.if-to-len.false, c.if-from-to.false, ap length c.self.view_is)
