use Rattle.std.proofs.Common.{◌≡◌, ◌*◌, ◌/◌, ◌^◌, ◌-◌, length}
use Rattle.hex.specs.Hex.{IsBytes}
use Rattle.sem_bits.specs.Number.{enc}
use Rattle.sem_bits.specs.Octets.{bits_of}
use Rattle.sem_bits.proofs.long.spell.Given as goal

abbrev pub invariant-loop-i : goal.invariant-loop-i
invariant-loop-i l = IsBytes l.octets.items × (bits_of l.octets.items ≡ enc (8 * l.i) (l.word / 2 ^ (8 * (l.many - l.i)))) × (length l.octets.items ≡ l.i) × (l.octets.capacity ≡ 8)
