use Rattle.std.proofs.Common.{arith, ap, length}
use Rattle.sem_bits.proofs.OctetsKept.{kept_count}
use Rattle.sem_bits.proofs.long.Long.number_at.Goals as goal

pub number-requires-clause-within : goal.number-requires-clause-within
number-requires-clause-within c = omega (arith, ap length c.as_slice.ensures, kept_count _ _ c.self.invariant, c.self.invariant.counted, c.len.ensures.value, c.if-count-len.false, c.requires, ap length c.self.view_is)
