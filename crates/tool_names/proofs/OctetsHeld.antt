-- The octets that hold bits are those that the function gives.
use Rattle.std.proofs.Common.{◌≡◌, ℕ, Bool, List}
use Rattle.sem_bits.specs.Octets.{Holds}
use Rattle.sem_bits.proofs.OctetsHeld.{octets_same}
use Rattle.tool_input.specs.BitTexts.{octets_of}
use Rattle.tool_input.proofs.BitTextsSpelled.{octets_held}

pub octets_are : (octets : List ℕ) (bits : List Bool) → Holds octets bits → octets ≡ octets_of bits
octets_are octets bits h = octets_same octets (octets_of bits) bits h (octets_held bits)
