-- What each step of a plan says of what it gives, by the numbers and sides that are known (docs/DEFINITIONS.md, The steps of a reading walk).
use Rattle.std.specs.Prelude.{◌≡◌, ℕ, ◌≤ℤ◌, ◌<ℤ◌, ◌-ℤ◌, Bool, List, [], ◌∷◌, length, Option, Some, ℤ, pos}
use Rattle.sem_bits.specs.Number.{num}
use Rattle.sem_expr.specs.declared.expr.Subject.{Subject}
use Rattle.sem_expr.specs.declared.expr.Side.{Side}
use Rattle.sem_expr.specs.declared.expr.Side.TheVariants.{Uncompressed, Compressed}
use Rattle.sem_expr.specs.declared.expr.Expr.{Expr}
use Rattle.sem_expr.specs.Values.{Assignment, remainder, val}
use Rattle.sem_library.specs.Methods.{Spells, IsLowPart, LsbHolds, CrcHolds}
use Rattle.sem_profile.specs.declared.profile.Library.{Library}
use Rattle.sem_profile.specs.declared.profile.Library.TheVariants as library
use Rattle.sem_filling.specs.Fits.{vals}
use Rattle.cert_rules.specs.Rules.{Congruence}

-- u is the uncompressed side that the library method gives for c
abbrev pub UpIs : Assignment → Option (List Bool) → List Bool → Library → List Bool → Type 0
UpIs a ref c (library.UncompressedValue len v) u = (p : ℤ) × (q : ℤ) × (val a len ≡ Some p) × (val a v ≡ Some q) × Spells p q u
UpIs a ref c (library.CompressedValue len v) u = u ≡ []
UpIs a ref c (library.Irregular len) u = u ≡ c
UpIs a ref c library.Static u = ref ≡ Some u
UpIs a ref c (library.Lsb k offset) u = (p : ℤ) × (q : ℤ) × (r : List Bool) × (val a k ≡ Some p) × (val a offset ≡ Some q) × (ref ≡ Some r) × LsbHolds p q r u c
UpIs a ref c (library.Crc crc) u = u ≡ []

-- c is the compressed side that it gives for u; of lsb the last bits, whatever the reference
abbrev pub DownIs : (Subject → Side → List Bool) → Assignment → List Bool → Library → List Bool → Type 0
DownIs side a u (library.UncompressedValue len v) c = c ≡ []
DownIs side a u (library.CompressedValue len v) c = (p : ℤ) × (q : ℤ) × (val a len ≡ Some p) × (val a v ≡ Some q) × Spells p q c
DownIs side a u (library.Irregular len) c = c ≡ u
DownIs side a u library.Static c = c ≡ []
DownIs side a u (library.Lsb k offset) c = (p : ℤ) × (val a k ≡ Some p) × IsLowPart p (num u) c
DownIs side a u (library.Crc crc) c = (n : ℤ) × (poly : ℤ) × (init : ℤ) × (len : ℤ) ×
    (vals a (crc.bits ∷ crc.polynomial ∷ crc.initial ∷ crc.length ∷ []) ≡ Some (n ∷ poly ∷ init ∷ len ∷ [])) × CrcHolds n poly init (side crc.subject crc.side) len c

-- n is the value of the expression
abbrev pub IsValue : Assignment → Expr → ℕ → Type 0
IsValue a e n = val a e ≡ Some (pos n)

-- n is the length of the reference
abbrev pub IsLengthOf : Option (List Bool) → ℕ → Type 0
IsLengthOf ref n = (r : List Bool) × (ref ≡ Some r) × (n ≡ length r)

-- n is the length of that side that the library method gives
abbrev pub LengthIs : Assignment → Option (List Bool) → Side → Library → ℕ → Type 0
LengthIs a ref Uncompressed (library.UncompressedValue len v) n = IsValue a len n
LengthIs a ref Uncompressed (library.CompressedValue len v) n = n ≡ 0
LengthIs a ref Uncompressed (library.Irregular len) n = IsValue a len n
LengthIs a ref Uncompressed library.Static n = IsLengthOf ref n
LengthIs a ref Uncompressed (library.Lsb k offset) n = IsLengthOf ref n
LengthIs a ref Uncompressed (library.Crc crc) n = n ≡ 0
LengthIs a ref Compressed (library.UncompressedValue len v) n = n ≡ 0
LengthIs a ref Compressed (library.CompressedValue len v) n = IsValue a len n
LengthIs a ref Compressed (library.Irregular len) n = IsValue a len n
LengthIs a ref Compressed library.Static n = n ≡ 0
LengthIs a ref Compressed (library.Lsb k offset) n = IsValue a k n
LengthIs a ref Compressed (library.Crc crc) n = IsValue a crc.bits n

-- u has that length, and spells the value of the expression
pub record SolvedIs (a : Assignment) (n : ℕ) (e : Expr) (u : List Bool) : Type 0 where
  pub as_long : length u ≡ n
  pub number_is : IsValue a e (num u)

-- u has that length, and spells what is left of what is to be left without what is added; what is to be left is a remainder
pub record RemainderIs (a : Assignment) (n : ℕ) (c : Congruence) (u : List Bool) : Type 0 where
  pub as_long : length u ≡ n
  pub more : ℤ
  pub more_is : val a c.more ≡ Some more
  pub left : ℤ
  pub left_is : val a c.left ≡ Some left
  pub above : pos 0 ≤ℤ left
  pub below : left <ℤ c.by
  pub number_is : remainder (left -ℤ more) c.by ≡ Some (pos (num u))
