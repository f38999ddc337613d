use Rattle.std.proofs.Common.{arith, ap, refl, length}
use Rattle.sem_bits.proofs.OctetsKept.{joined, joined_kept}
use Rattle.sem_bits.proofs.long.Long.append.Goals as goal

pub invariant_of-self-2 : goal.invariant_of-self-2
invariant_of-self-2 c =
    let h = joined c.self.inside.octets.items c.other.inside.octets.items _ _ c.self.inside.count c.other.inside.count _ _ c.self.invariant c.other.invariant c.as_slice.ensures refl refl c.in_ok-join.ensures.ok in
    joined_kept _ _ _ c.self.inside.count c.other.inside.count c.self.invariant.counted c.other.invariant.counted h (omega (arith, c.requires, ap length c.self.view_is, ap length c.other.view_is, c.self.invariant.counted, c.other.invariant.counted))
