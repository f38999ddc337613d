-- What keeps every filling from a format, whatever the context (docs/NOTATION.md).
use Rattle.std.specs.Prelude.{◌≡◌, ◌≢◌, ℕ, ◌<◌, ◌≤◌, ◌%◌, Bool, true, false, List, ℤ, length, slice_get, Option, Some, None}
use Rattle.text_source.specs.declared.span.Span.{Span}
use Rattle.sem_expr.specs.declared.expr.Expr.{Expr}
use Rattle.sem_expr.specs.declared.expr.Side.{Side}
use Rattle.sem_expr.specs.declared.interval.Interval.{Interval}
use Rattle.sem_expr.specs.Bounds.{bounding_of}
use Rattle.sem_expr.specs.Ranged.{Bounding}
use Rattle.sem_profile.specs.declared.profile.Bounds.{Bounds}
use Rattle.sem_profile.specs.declared.profile.Sizes.{Sizes}
use Rattle.sem_profile.specs.declared.profile.FormatSizes.{FormatSizes}
use Rattle.sem_profile.specs.declared.profile.MethodSizes.{MethodSizes}
use Rattle.sem_profile.specs.declared.profile.Library.TheVariants as library
use Rattle.sem_profile.specs.declared.profile.Encoding.{Encoding}
use Rattle.sem_profile.specs.declared.profile.Encoding.TheVariants as encoding
use Rattle.sem_profile.specs.declared.profile.CrcArguments.{CrcArguments}
use Rattle.sem_profile.specs.declared.profile.Field.{Field}
use Rattle.sem_profile.specs.declared.profile.Constraint.{Constraint}
use Rattle.sem_profile.specs.declared.profile.Format.{Format}
use Rattle.sem_profile.specs.declared.profile.Method.{Method}
use Rattle.sem_profile.specs.Resolved.{Resolved}
use Rattle.sem_profile.specs.Ranging.{format_ranges}
use Rattle.sem_profile.specs.BoundsFaults.{side_bounds, subject_sizes}
use Rattle.sem_profile.specs.BoundsLaws.{encoding_exprs}
use Rattle.sem_filling.specs.declared.filling.Filling.{Filling, out-Filling}
use Rattle.sem_filling.specs.Entries.{Path}
use Rattle.sem_filling.specs.Fits.{Context, Fits, format_at}
use Rattle.sem_filling.specs.Bounded.{ArgumentsLie}
use Rattle.sem_lint.specs.Demands.{HasUnmet}
use Rattle.sem_lint.specs.Never.{IsUntrue}
use Rattle.sem_lint.specs.Undefined.{first_undefined, undefined_condition}
use Rattle.sem_filling.specs.declared.obstacle.Obstacle.{Obstacle}
use Rattle.sem_filling.specs.declared.obstacle.Obstacle.TheVariants as obstacle

-- the side of the field i has no length: the least is above the greatest
abbrev pub HasNoLength : List Sizes → ℕ → Side → Type 0
HasNoLength sizes i side = (b : Sizes) × (slice_get sizes i ≡ Some b) × ((side_bounds side b).most < (side_bounds side b).least)

-- the field is encoded by `lsb`
abbrev pub is_lsb : Encoding → Bool
is_lsb (encoding.Library (library.Lsb bits offset)) = true
is_lsb _ = false

-- the arguments of a field's `crc`
abbrev pub crc_in : Encoding → Option CrcArguments
crc_in (encoding.Library (library.Crc crc)) = Some crc
crc_in _ = None

-- the field i sends by `lsb` at least more bits than it has in the header at most
pub record SendsMore (fields : List Field) (sizes : List Sizes) (i : ℕ) : Type 0 where
  pub field : Field
  pub field_at : slice_get fields i ≡ Some field
  pub by_lsb : is_lsb field.encoding ≡ true
  pub bounds : Sizes
  pub bounds_at : slice_get sizes i ≡ Some bounds
  pub more : bounds.uncompressed.most < bounds.compressed.least

-- no length that the bits may have is a number of whole octets
pub record AreSplit (b : Bounds) : Type 0 where
  pub split : (n : ℕ) → b.least ≤ n → n ≤ b.most → n % 8 ≢ 0

-- the field i is a `crc` over such bits
pub record SplitsOctets (fields : List Field) (sizes : FormatSizes) (i : ℕ) : Type 0 where
  pub field : Field
  pub field_at : slice_get fields i ≡ Some field
  pub crc : CrcArguments
  pub by_crc : crc_in field.encoding ≡ Some crc
  pub split : AreSplit (side_bounds crc.side (subject_sizes sizes crc.subject))

-- an argument of the field i has no value
pub record LacksAt (fields : List Field) (r : Bounding) (i : ℕ) (at : Span) : Type 0 where
  pub field : Field
  pub field_at : slice_get fields i ≡ Some field
  pub undefined : first_undefined r (encoding_exprs field.encoding) ≡ Some at

-- one of some field has none
abbrev pub LacksValue : List Field → Bounding → Span → Type 0
LacksValue fields r at = (i : ℕ) × LacksAt fields r i at

-- an argument or a condition has none
pub data HasNoValue (fields : List Field) (constraints : List Constraint) (r : Bounding) (at : Span) : Type 0 where
  of_argument : LacksValue fields r at → HasNoValue fields constraints r at
  of_condition : undefined_condition r constraints ≡ Some at → HasNoValue fields constraints r at

-- the obstacle stands in a format with these bounds, under these ranges of its numbers; one in a called method isn't of the format alone
abbrev pub StandsUnder : Format → FormatSizes → Bounding → Obstacle → Type 0
StandsUnder format sizes r (obstacle.NoLength i side) = HasNoLength sizes.fields i side
StandsUnder format sizes r (obstacle.SendsMore i) = SendsMore format.fields sizes.fields i
StandsUnder format sizes r (obstacle.SplitsOctets i) = SplitsOctets format.fields sizes i
StandsUnder format sizes r (obstacle.NoValue at) = HasNoValue format.fields format.constraints r at
StandsUnder format sizes r (obstacle.OutOfRange u) = HasUnmet format.fields r u
StandsUnder format sizes r (obstacle.NeverTrue j) = IsUntrue format.constraints r j
StandsUnder format sizes r (obstacle.CallsDead i) = ⊥

-- the same under these ranges of parameters
abbrev pub StandsIn : Format → FormatSizes → List Interval → Obstacle → Type 0
StandsIn format sizes parameters o = StandsUnder format sizes (bounding_of (format_ranges sizes parameters)) o

-- it stands in the format n of the method k by that format alone
pub record Stands (p : Resolved) (k n : ℕ) (o : Obstacle) : Type 0 where
  pub format : Format
  pub format_is : format_at p.methods k n ≡ Some format
  pub whole : MethodSizes
  pub whole_at : slice_get p.sizes k ≡ Some whole
  pub sizes : FormatSizes
  pub sizes_at : slice_get whole.formats n ≡ Some sizes
  pub stands : StandsIn format sizes whole.parameters o

-- the field i of the format n of the method k calls the method j
pub record CallsAt (p : Resolved) (k n i j : ℕ) : Type 0 where
  pub format : Format
  pub format_is : format_at p.methods k n ≡ Some format
  pub field : Field
  pub field_at : slice_get format.fields i ≡ Some field
  pub arguments : List Expr
  pub is_call : field.encoding ≡ encoding.Call j arguments

mutual
  -- The obstacle stands in the format n of the method k.
  pub data Hinders (p : Resolved) : ℕ → ℕ → Obstacle → Type 0 where
    by_itself : {k n : ℕ} {o : Obstacle} → Stands p k n o → Hinders p k n o
    -- a field calls a method of which each format has one
    by_call : {k n i : ℕ} (j : ℕ) → CallsAt p k n i j → IsLifeless p j → Hinders p k n (obstacle.CallsDead i)

  -- Each format of the method has an obstacle.
  pub data IsLifeless (p : Resolved) : ℕ → Type 0 where
    lifeless : {k : ℕ} (m : Method) → slice_get p.methods k ≡ Some m → ((n : ℕ) → n < length m.formats → IsHindered p k n) → IsLifeless p k

  pub data IsHindered (p : Resolved) : ℕ → ℕ → Type 0 where
    hindered : {k n : ℕ} (o : Obstacle) → Hinders p k n o → IsHindered p k n

-- no filling of the format n fits the method k: in no context, under no arguments that a call can hand to it, below no path
abbrev pub IsDead : Resolved → ℕ → ℕ → Type 0
IsDead p k n = (ctx : Context) (args : List ℤ) (path : Path) (f : Filling) (s : MethodSizes) → slice_get p.sizes k ≡ Some s → ArgumentsLie s.parameters args →
    Fits p.methods ctx k args path f → (out-Filling f).format ≡ n → ⊥
