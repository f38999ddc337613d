use Rattle.std.proofs.Common.{arith, ap, length}
use Rattle.sem_bits.proofs.OctetsKept.{kept_count}
use Rattle.sem_bits.proofs.long.Long.narrow_number_at.Goals as goal

pub narrow_number-requires-clause-within : goal.narrow_number-requires-clause-within
narrow_number-requires-clause-within c = omega (arith, ap length c.as_slice.ensures, kept_count _ _ c.self.invariant, c.self.invariant.counted, c.requires.within, ap length c.self.view_is)
