-- What library methods give where their arguments have these values, if they have any (docs/DEFINITIONS.md, The steps of a walk).
use Rattle.std.specs.Prelude.{◌≡◌, ℤ, Bool, List, Option, Some}
use Rattle.sem_bits.specs.Number.{num}
use Rattle.sem_library.specs.Methods.{Spells, IsLowPart, LsbHolds, CrcHolds}

-- the bits have that length and spell that number
abbrev pub SpelledBy : Option ℤ → Option ℤ → List Bool → Type 0
SpelledBy len number bits = (p : ℤ) × (q : ℤ) × (len ≡ Some p) × (number ≡ Some q) × Spells p q bits

-- u is what `lsb` gives for c
abbrev pub LsbBy : Option ℤ → Option ℤ → Option (List Bool) → List Bool → List Bool → Type 0
LsbBy k offset ref c u = (p : ℤ) × (q : ℤ) × (r : List Bool) × (k ≡ Some p) × (offset ≡ Some q) × (ref ≡ Some r) × LsbHolds p q r u c

-- c is the last so many bits of u
abbrev pub LowBy : Option ℤ → List Bool → List Bool → Type 0
LowBy k u c = (p : ℤ) × (k ≡ Some p) × IsLowPart p (num u) c

-- c spells the checksum of the covered bits
abbrev pub SummedBy : Option ℤ → Option ℤ → Option ℤ → Option ℤ → List Bool → List Bool → Type 0
SummedBy n polynomial initial len covered c =
    (p : ℤ) × (q : ℤ) × (r : ℤ) × (s : ℤ) × (n ≡ Some p) × (polynomial ≡ Some q) × (initial ≡ Some r) × (len ≡ Some s) × CrcHolds p q r covered s c
