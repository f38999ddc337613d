use Rattle.std.proofs.Common.{◌≡◌, map, drop}
use Rattle.std.specs.Prelude.{◌↔◌}
use Rattle.sem_filling.specs.Fillings.{header, header_bits, sides_of}
use Rattle.sem_filling.proofs.whole_sides.is_header.Given as goal

abbrev pub invariant-loop-field : goal.invariant-loop-field
invariant-loop-field l = (l.fn.bits ≡ header l.fn.filling) ↔ (l.cursor.left ≡ header_bits (map sides_of (drop l.field-index l.field-items)))
