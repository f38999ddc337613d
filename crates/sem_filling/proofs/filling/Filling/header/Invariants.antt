use Rattle.std.proofs.Common.{◌≡◌, ◌++◌, map, drop}
use Rattle.sem_filling.specs.Fillings.{header, header_bits, sides_of}
use Rattle.sem_filling.proofs.filling.Filling.header.Given as goal

abbrev pub invariant-loop-field : goal.invariant-loop-field
invariant-loop-field l = l.header ++ header_bits (map sides_of (drop l.field-index l.field-items)) ≡ header l.self
