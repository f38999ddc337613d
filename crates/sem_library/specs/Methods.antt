-- The library methods (RFC 4997, section 4.11): what each says of the two sides of its field.
use Rattle.std.specs.Prelude.{◌≡◌, ℕ, ◌%◌, ◌^◌, ◌≤◌, ◌<◌, Bool, List, [], length, ℤ, pos, ◌+ℤ◌, ◌-ℤ◌, Option, Some, None, IsSomeAnd}
use Rattle.std.specs.Int.{int_rem_euclid}
use Rattle.std.specs.Int.RustNames.{unsigned_abs}
use Rattle.sem_bits.specs.Number.{num}
use Rattle.sem_library.specs.Crc.{crc_register}

-- A method and its arguments' values; of crc these are bits, poly, init, the covered bits and their length.
pub data Method : Type 0 where
  uncompressed_value : (len val : ℤ) → Method
  compressed_value : (len val : ℤ) → Method
  irregular : (len : ℤ) → Method
  static : Method
  lsb : (k offset : ℤ) → Method
  crc : (bits poly init : ℤ) → (covered : List Bool) → (len : ℤ) → Method

-- The bits have that length, which is at most 64, and spell that number.
pub record Spells (len val : ℤ) (bits : List Bool) : Type 0 where
  pub length_is : pos (length bits) ≡ len
  pub number_is : pos (num bits) ≡ val
  pub short : length bits ≤ 64

-- The bits have that length, which is at most 64, and spell the last so many bits of a number.
pub record IsLowPart (len : ℤ) (number : ℕ) (bits : List Bool) : Type 0 where
  pub length_is : pos (length bits) ≡ len
  pub number_is : num bits ≡ number % 2 ^ length bits
  pub short : length bits ≤ 64

-- u is as long as the reference, n bits, and is one of the 2 ^ k numbers from ref - offset on, modulo 2 ^ n; c has its last k bits.
pub record LsbHolds (k offset : ℤ) (ref u c : List Bool) : Type 0 where
  pub as_long : length u ≡ length ref
  pub short : length u ≤ 64
  pub bits_are : pos (length c) ≡ k
  pub within : length c ≤ length u
  pub place : ℕ
  pub in_interval : place < 2 ^ length c
  pub at_place : pos (num u) ≡ int_rem_euclid (pos (num ref) -ℤ offset +ℤ pos place) (pos (2 ^ length u))
  pub low_part : num c ≡ num u % 2 ^ length c

-- c has 1 to 64 bits, as said, which spell the register after the covered bits; poly and init fit in as many.
pub record CrcHolds (bits poly init : ℤ) (covered : List Bool) (len : ℤ) (c : List Bool) : Type 0 where
  pub bits_are : pos (length c) ≡ bits
  pub some_bits : 1 ≤ length c
  pub short : length c ≤ 64
  pub polynomial : ℕ
  pub polynomial_is : pos polynomial ≡ poly
  pub polynomial_fits : polynomial < 2 ^ length c
  pub initial : ℕ
  pub initial_is : pos initial ≡ init
  pub initial_fits : initial < 2 ^ length c
  pub length_is : pos (length covered) ≡ len
  pub whole_octets : length covered % 8 ≡ 0
  pub number_is : num c ≡ crc_register polynomial initial covered

-- The uncompressed side u and the compressed side c of a field under a method, where ref is the field's reference.
abbrev pub Lib : Method → Option (List Bool) → List Bool → List Bool → Type 0
Lib (uncompressed_value len val) ref u c = Spells len val u × (c ≡ [])
Lib (compressed_value len val) ref u c = (u ≡ []) × Spells len val c
Lib (irregular len) ref u c = (u ≡ c) × (pos (length u) ≡ len) × (length u ≤ 64)
Lib static ref u c = (ref ≡ Some u) × (length u ≤ 64) × (c ≡ [])
Lib (lsb k offset) ref u c = IsSomeAnd ref (λ r. LsbHolds k offset r u c)
Lib (crc bits poly init covered len) ref u c = (u ≡ []) × CrcHolds bits poly init covered len c

-- What an answer says: it is the one list of bits for which a fact holds, and None where there is none.
abbrev pub IsOnly : (List Bool → Type 0) → Option (List Bool) → Type 0
IsOnly P None = (x : List Bool) → P x → ⊥
IsOnly P (Some x) = P x × ((y : List Bool) → P y → y ≡ x)

-- the number that the interval of `lsb` begins with
abbrev pub lsb_start : ℤ → List Bool → ℕ
lsb_start offset ref = unsigned_abs (int_rem_euclid (pos (num ref) -ℤ offset) (pos (2 ^ length ref)))
