use Rattle.std.proofs.Common.{arith, ap, length}
use Rattle.sem_bits.proofs.OctetsKept.{kept_count}
use Rattle.sem_bits.proofs.long.Long.get.Goals as goal

pub bounds-as_slice-place : goal.bounds-as_slice-place
bounds-as_slice-place c = omega (arith, ap length c.as_slice.ensures, kept_count _ _ c.self.invariant, c.if-place-self.true)
