use Rattle.std.proofs.Common.{◌≡◌, ◌++◌, drop}
use Rattle.sem_filling.specs.Fillings.{packed_bits}
use Rattle.sem_pages.specs.Pages.{level_by}
use Rattle.sem_pages.proofs.sides.packed_of.Given as goal

abbrev pub invariant-loop-i : goal.invariant-loop-i
invariant-loop-i l = l.packed ++ packed_bits (drop l.i-index l.i-items) (level_by l.format.fields l.shown) ≡ packed_bits l.format.listing (level_by l.format.fields l.shown)
