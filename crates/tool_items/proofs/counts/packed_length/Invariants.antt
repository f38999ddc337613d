use Rattle.std.proofs.Common.{◌≡◌, ◌+◌, drop, length}
use Rattle.sem_filling.specs.Fillings.{level, packed, packed_bits}
use Rattle.tool_items.proofs.counts.packed_length.Given as goal

abbrev pub invariant-loop-place : goal.invariant-loop-place
invariant-loop-place l = l.bits + length (packed_bits (drop l.place-index l.place-items) (level l.filling)) ≡ length (packed l.filling)
