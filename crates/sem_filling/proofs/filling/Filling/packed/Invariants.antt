use Rattle.std.proofs.Common.{◌≡◌, ◌++◌, drop}
use Rattle.sem_filling.specs.Fillings.{packed, packed_bits, level}
use Rattle.sem_filling.proofs.filling.Filling.packed.Given as goal

abbrev pub invariant-loop-i : goal.invariant-loop-i
invariant-loop-i l = l.packed ++ packed_bits (drop l.i-index l.i-items) (level l.self) ≡ packed l.self
