use Rattle.std.proofs.Common.{◌≡◌, ◌≤◌, ◌++◌, drop, length, take}
use Rattle.sem_filling.specs.Fillings.{header_bits}
use Rattle.sem_pages.specs.Pages.{level_by}
use Rattle.sem_pages.proofs.sides.is_header.Given as goal

abbrev pub invariant-loop-i : goal.invariant-loop-i
invariant-loop-i l = (l.compared.place ≤ length l.bits) × ((take l.compared.place l.bits ++ l.compared.tail) ++ header_bits (level_by (drop l.i l.fields) (drop l.i l.shown)) ≡ header_bits (level_by l.fields l.shown))
