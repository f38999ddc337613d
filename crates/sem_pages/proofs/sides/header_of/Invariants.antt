use Rattle.std.proofs.Common.{◌≡◌, ◌++◌, drop}
use Rattle.sem_filling.specs.Fillings.{header_bits}
use Rattle.sem_pages.specs.Pages.{level_by}
use Rattle.sem_pages.proofs.sides.header_of.Given as goal

abbrev pub invariant-loop-i : goal.invariant-loop-i
invariant-loop-i l = l.header ++ header_bits (level_by (drop l.i l.fields) (drop l.i l.shown)) ≡ header_bits (level_by l.fields l.shown)
