use Rattle.std.proofs.Common.{◌≡◌, drop}
use Rattle.std.specs.Prelude.{◌↔◌}
use Rattle.sem_filling.specs.Fillings.{packed, packed_bits, level}
use Rattle.sem_filling.proofs.whole_sides.is_packed.Given as goal

abbrev pub invariant-loop-i : goal.invariant-loop-i
invariant-loop-i l = (l.fn.bits ≡ packed l.fn.filling) ↔ (l.cursor.left ≡ packed_bits (drop l.i-index l.i-items) (level l.fn.filling))
