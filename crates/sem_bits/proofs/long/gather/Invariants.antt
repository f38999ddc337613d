use Rattle.std.proofs.Common.{◌≡◌, ◌*◌, ◌+◌, ◌++◌, take, drop, replicate, false, length}
use Rattle.hex.specs.Hex.{IsBytes}
use Rattle.sem_bits.specs.Octets.{bits_of}
use Rattle.sem_bits.proofs.long.gather.Given as goal

abbrev pub invariant-loop-i : goal.invariant-loop-i
invariant-loop-i l = (bits_of l.into.items ≡ bits_of l.initial.into.items ++ take (8 * l.i) (drop l.start (bits_of l.octets ++ replicate 8 false)))
    × (IsBytes l.initial.into.items → IsBytes l.into.items) × (l.into.capacity ≡ l.initial.into.capacity) × (length l.into.items ≡ length l.initial.into.items + l.i)
