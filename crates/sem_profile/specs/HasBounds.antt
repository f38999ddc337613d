-- The rule that gives each bound.
use Rattle.std.specs.Prelude.{◌≡◌, ◌≤◌, ◌^◌, ℕ, ◌≤ℤ◌, ℤ, pos, Bool, true, false, List, slice_get, Option, Some, None, ◌+◌, [], ◌∷◌, option_map, unwrap_or, if◌then◌else◌}
use Rattle.text_source.specs.declared.span.Span.{Span}
use Rattle.sem_expr.specs.declared.expr.Expr.{Expr}
use Rattle.sem_expr.specs.declared.expr.Side.{Side}
use Rattle.sem_expr.specs.declared.expr.Side.TheVariants.{Uncompressed, Compressed}
use Rattle.sem_profile.specs.declared.profile.Bounds.{Bounds}
use Rattle.sem_profile.specs.declared.profile.Sizes.{Sizes}
use Rattle.sem_profile.specs.declared.profile.FormatSizes.{FormatSizes}
use Rattle.sem_profile.specs.declared.profile.MethodSizes.{MethodSizes}
use Rattle.sem_profile.specs.declared.profile.Library.{Library}
use Rattle.sem_profile.specs.declared.profile.Library.TheVariants as library
use Rattle.sem_profile.specs.declared.profile.Encoding.TheVariants as encoding
use Rattle.sem_profile.specs.declared.profile.Constraint.TheVariants.{Bracket}
use Rattle.sem_profile.specs.declared.profile.Field.{Field}
use Rattle.sem_profile.specs.declared.profile.Format.{Format}
use Rattle.sem_profile.specs.declared.profile.Method.{Method}
use Rattle.sem_profile.specs.Constants.{constant}
use Rattle.sem_profile.specs.Fields.{lists}
use Rattle.sem_profile.specs.Formats.{is_header}
use Rattle.sem_profile.specs.BoundsFaults.{side_bounds}
use Rattle.sem_profile.specs.Outcome.{AreSizes, FormatAt}

-- the argument that is the length of the side
abbrev pub size_of : Side → Library → Option Expr
size_of Uncompressed (library.UncompressedValue len v) = Some len
size_of Uncompressed (library.CompressedValue len v) = None
size_of Uncompressed (library.Irregular len) = Some len
size_of Uncompressed library.Static = None
size_of Uncompressed (library.Lsb k offset) = None
size_of Uncompressed (library.Crc crc) = None
size_of Compressed (library.UncompressedValue len v) = None
size_of Compressed (library.CompressedValue len v) = Some len
size_of Compressed (library.Irregular len) = Some len
size_of Compressed library.Static = None
size_of Compressed (library.Lsb k offset) = Some k
size_of Compressed (library.Crc crc) = Some crc.bits

-- the side is always empty
abbrev pub is_empty : Side → Library → Bool
is_empty Uncompressed (library.UncompressedValue len v) = false
is_empty Uncompressed (library.CompressedValue len v) = true
is_empty Uncompressed (library.Irregular len) = false
is_empty Uncompressed library.Static = false
is_empty Uncompressed (library.Lsb k offset) = false
is_empty Uncompressed (library.Crc crc) = true
is_empty Compressed (library.UncompressedValue len v) = true
is_empty Compressed (library.CompressedValue len v) = false
is_empty Compressed (library.Irregular len) = false
is_empty Compressed library.Static = true
is_empty Compressed (library.Lsb k offset) = false
is_empty Compressed (library.Crc crc) = false

-- they are all constants, and n is above none of them
abbrev pub NoneBelow : ℕ → List Expr → Type 0
NoneBelow n lengths = (j : ℕ) (e : Expr) → slice_get lengths j ≡ Some e → (v : ℤ) × (constant e ≡ Some v) × (pos n ≤ℤ v)

-- they are all constants, and n is below none of them
abbrev pub NoneAbove : ℕ → List Expr → Type 0
NoneAbove n lengths = (j : ℕ) (e : Expr) → slice_get lengths j ≡ Some e → (v : ℤ) × (constant e ≡ Some v) × (v ≤ℤ pos n)

-- n is a lower bound of the length of the side of the field i
pub data Lower (table : List MethodSizes) (format : Format) (i : ℕ) (d : Field) (side : Side) : ℕ → Type 0 where
  least_of_all : Lower table format i d side 0
  least_sized : {n : ℕ} (l : Library) (e : Expr) → d.encoding ≡ encoding.Library l → size_of side l ≡ Some e → constant e ≡ Some (pos n) → Lower table format i d side n
  least_called : {n : ℕ} (k : ℕ) (es : List Expr) (m : MethodSizes) → d.encoding ≡ encoding.Call k es → slice_get table k ≡ Some m → n ≡ (side_bounds side m.whole).least →
      Lower table format i d side n
  least_bracket : {n : ℕ} (j : ℕ) (lengths : List Expr) (place : Span) → slice_get format.constraints j ≡ Some (Bracket i side lengths place) → NoneBelow n lengths →
      Lower table format i d side n

-- n is an upper bound of it
pub data Upper (table : List MethodSizes) (format : Format) (i : ℕ) (d : Field) (side : Side) : ℕ → Type 0 where
  most_unlisted : side ≡ Compressed → lists format.listing i ≡ false → Upper table format i d side 0
  most_bare : d.encoding ≡ encoding.Bare → side ≡ Uncompressed → Upper table format i d side 64
  -- a listed field has an encoding, and a call is of a method: these two stand for profiles that are refused elsewhere
  most_unsent : d.encoding ≡ encoding.Bare → side ≡ Compressed → Upper table format i d side 0
  most_missing : (k : ℕ) (es : List Expr) → d.encoding ≡ encoding.Call k es → slice_get table k ≡ None → Upper table format i d side 0
  most_empty : (l : Library) → d.encoding ≡ encoding.Library l → is_empty side l ≡ true → Upper table format i d side 0
  most_of_all : (l : Library) → d.encoding ≡ encoding.Library l → Upper table format i d side 64
  most_sized : {n : ℕ} (l : Library) (e : Expr) → d.encoding ≡ encoding.Library l → size_of side l ≡ Some e → constant e ≡ Some (pos n) → Upper table format i d side n
  most_called : {n : ℕ} (k : ℕ) (es : List Expr) (m : MethodSizes) → d.encoding ≡ encoding.Call k es → slice_get table k ≡ Some m → n ≡ (side_bounds side m.whole).most →
      Upper table format i d side n
  most_bracket : {n : ℕ} (j : ℕ) (lengths : List Expr) (place : Span) → slice_get format.constraints j ≡ Some (Bracket i side lengths place) → NoneAbove n lengths →
      Upper table format i d side n

-- the sum over the listed fields
abbrev pub listed_sum : (Sizes → ℕ) → List Sizes → List ℕ → ℕ
listed_sum bound fields [] = 0
listed_sum bound fields (i ∷ is) = unwrap_or (option_map bound (slice_get fields i)) 0 + listed_sum bound fields is

-- the sum over the header fields, of the fields and their bounds side by side
abbrev pub header_sum : (Sizes → ℕ) → List Field → List Sizes → ℕ
header_sum bound [] bs = 0
header_sum bound (d ∷ ds) [] = 0
header_sum bound (d ∷ ds) (b ∷ bs) = (if is_header d.declared.part then bound b else 0) + header_sum bound ds bs

-- from the least to the greatest length of the one lie those of the other
pub record Encloses (outer inner : Bounds) : Type 0 where
  pub least : outer.least ≤ inner.least
  pub most : inner.most ≤ outer.most

-- a rule gives each bound of each field of each format, and none is above 2^64; a format's header is that of its header fields, its packed bits are those of its listed fields,
-- and a method's bounds enclose those of its formats
pub record HasBounds (methods : List Method) (table : List MethodSizes) : Type 0 where
  pub least_by : (m : Method) (format : Format) (s : MethodSizes) (sizes : FormatSizes) → FormatAt methods table m format s sizes → (side : Side) (i : ℕ) (d : Field) (b : Sizes) →
      slice_get format.fields i ≡ Some d → slice_get sizes.fields i ≡ Some b → Lower table format i d side (side_bounds side b).least
  pub most_by : (m : Method) (format : Format) (s : MethodSizes) (sizes : FormatSizes) → FormatAt methods table m format s sizes → (side : Side) (i : ℕ) (d : Field) (b : Sizes) →
      slice_get format.fields i ≡ Some d → slice_get sizes.fields i ≡ Some b → Upper table format i d side (side_bounds side b).most
  pub small : (m : Method) (format : Format) (s : MethodSizes) (sizes : FormatSizes) → FormatAt methods table m format s sizes → (side : Side) (i : ℕ) (d : Field) (b : Sizes) →
      slice_get format.fields i ≡ Some d → slice_get sizes.fields i ≡ Some b → (side_bounds side b).most ≤ 2 ^ 64
  pub least_header : (m : Method) (format : Format) (s : MethodSizes) (sizes : FormatSizes) → FormatAt methods table m format s sizes →
      sizes.whole.uncompressed.least ≡ header_sum (λ b. b.uncompressed.least) format.fields sizes.fields
  pub most_header : (m : Method) (format : Format) (s : MethodSizes) (sizes : FormatSizes) → FormatAt methods table m format s sizes →
      sizes.whole.uncompressed.most ≡ header_sum (λ b. b.uncompressed.most) format.fields sizes.fields
  pub least_sum : (m : Method) (format : Format) (s : MethodSizes) (sizes : FormatSizes) → FormatAt methods table m format s sizes →
      sizes.whole.compressed.least ≡ listed_sum (λ b. b.compressed.least) sizes.fields format.listing
  pub most_sum : (m : Method) (format : Format) (s : MethodSizes) (sizes : FormatSizes) → FormatAt methods table m format s sizes →
      sizes.whole.compressed.most ≡ listed_sum (λ b. b.compressed.most) sizes.fields format.listing
  pub of_method : (m : Method) (format : Format) (s : MethodSizes) (sizes : FormatSizes) → FormatAt methods table m format s sizes → (side : Side) →
      Encloses (side_bounds side s.whole) (side_bounds side sizes.whole)

-- the equations give the rules
abbrev pub BoundsByRules : Type 0
BoundsByRules = (methods : List Method) (table : List MethodSizes) → AreSizes methods table → HasBounds methods table
