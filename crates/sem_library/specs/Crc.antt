-- The register of the method crc (RFC 4997, section 4.11).
use Rattle.std.specs.Prelude.{◌≡◌, ℕ, zero, suc, ◌/◌, ◌%◌, ◌==◌, ◌<◌, Bool, false, List, [], ◌++◌, length, take, drop, reverse, fold, bit_xor, slice_index, if◌then◌else◌}
use Rattle.sem_bits.specs.Number.{bit}

-- The register after one more bit: it is shifted right by one, and poly is put over it where its lowest bit differed.
abbrev pub crc_step : ℕ → ℕ → Bool → ℕ
crc_step poly r x = if r % 2 == bit x then r / 2 else bit_xor (r / 2) poly

-- the register after four more bits, which were put over it before
abbrev pub four_steps : ℕ → ℕ → ℕ
four_steps poly r = crc_step poly (crc_step poly (crc_step poly (crc_step poly r false) false) false) false

-- the table has the register after four more bits, from each below 16
abbrev pub IsTable : ℕ → List ℕ → Type 0
IsTable poly table = (r : ℕ) → r < 16 → slice_index table r ≡ four_steps poly r

-- the bits of n octets, each octet's lowest bit first
abbrev pub low_bits_first : ℕ → List Bool → List Bool
low_bits_first zero bits = []
low_bits_first (suc n) bits = reverse (take 8 bits) ++ low_bits_first n (drop 8 bits)

-- the register after whole octets of bits
abbrev pub crc_register : ℕ → ℕ → List Bool → ℕ
crc_register poly init bits = fold (crc_step poly) init (low_bits_first (length bits / 8) bits)
