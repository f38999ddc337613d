-- When a filling fits: a relation over whole fillings, which knows no cursor, no order of steps and no certificate (RFC 4997, sections 4.10 to 4.12).
use Rattle.std.specs.Prelude.{◌≡◌, ℕ, ◌≤◌, Bool, true, false, List, [], ◌∷◌, map, length, slice_get, Option, Some, None, option_map, option_and_then, ℤ, pos}
use Rattle.std.specs.Option.{option_or}
use Rattle.sem_bits.specs.Number.{num}
use Rattle.sem_expr.specs.declared.expr.Subject.{Subject}
use Rattle.sem_expr.specs.declared.expr.Subject.TheVariants.{This}
use Rattle.sem_expr.specs.declared.expr.Subject.TheVariants as subject
use Rattle.sem_expr.specs.declared.expr.Side.{Side}
use Rattle.sem_expr.specs.declared.expr.Side.TheVariants.{Uncompressed, Compressed}
use Rattle.sem_expr.specs.declared.expr.Measure.{Measure}
use Rattle.sem_expr.specs.declared.expr.Measure.TheVariants as measure
use Rattle.sem_expr.specs.declared.expr.Expr.{Expr}
use Rattle.sem_expr.specs.Values.{Assignment, val, truth}
use Rattle.sem_library.specs.Methods.{Method, Lib}
use Rattle.sem_library.specs.Methods as lib
use Rattle.sem_profile.specs.declared.profile.Part.{Part}
use Rattle.sem_profile.specs.declared.profile.Part.TheVariants.{Header, Control, Local}
use Rattle.sem_profile.specs.declared.profile.Library.{Library}
use Rattle.sem_profile.specs.declared.profile.Library.TheVariants as library
use Rattle.sem_profile.specs.declared.profile.Encoding.{Encoding}
use Rattle.sem_profile.specs.declared.profile.Encoding.TheVariants as encoding
use Rattle.sem_profile.specs.declared.profile.Field.{Field}
use Rattle.sem_profile.specs.declared.profile.Constraint.{Constraint}
use Rattle.sem_profile.specs.declared.profile.Constraint.TheVariants.{Bracket, Enforce}
use Rattle.sem_profile.specs.declared.profile.Format.{Format}
use Rattle.sem_profile.specs.declared.profile.Method as profile
use Rattle.sem_profile.specs.Fields.{lists}
use Rattle.sem_filling.specs.declared.filling.Filling.{Filling, out-Filling}
use Rattle.sem_filling.specs.declared.filling.FilledField.{FilledField}
use Rattle.sem_filling.specs.Fillings.{Sides, sides_of, inner_of, fields_of, listing_of, level, header_bits, packed_bits, header, packed}
use Rattle.sem_filling.specs.Entries.{Path, below}

-- ---- what a field may refer to

-- a map from paths to bits, by its look-up
abbrev pub Context : Type 0
Context = Path → Option (List Bool)

-- the reference of a field: the context's entry, else the value that INITIAL gives, else nothing; a local field has none
abbrev pub reference_of : Part → Context → Path → Option (List Bool) → Option (List Bool)
reference_of Header ctx path initial = option_or (ctx path) initial
reference_of Control ctx path initial = option_or (ctx path) initial
reference_of Local ctx path initial = None

-- ---- the numbers of a level

abbrev pub field_side : Option Sides → Side → List Bool
field_side None side = []
field_side (Some s) Uncompressed = s.uncompressed
field_side (Some s) Compressed = s.compressed

-- one side of a field, by its index, or of the whole
abbrev pub side_of : List ℕ → List Sides → Subject → Side → List Bool
side_of listing fs (subject.Field i) side = field_side (slice_get fs i) side
side_of listing fs This Uncompressed = header_bits fs
side_of listing fs This Compressed = packed_bits listing fs

abbrev pub measured : Measure → List Bool → ℤ
measured measure.Value bits = pos (num bits)
measured measure.Length bits = pos (length bits)

-- the numbers of all attributes and of the parameters
abbrev pub assigned : List ℕ → List Sides → List ℤ → Assignment
assigned listing fs args = record {
  attribute = λ t. Some (measured t.measure (side_of listing fs t.subject t.side));
  parameter = λ i. slice_get args i;
}

-- the values of several expressions; none where one has none
abbrev pub vals : Assignment → List Expr → Option (List ℤ)
vals a [] = Some []
vals a (e ∷ es) = option_and_then (λ v. option_map (λ vs. v ∷ vs) (vals a es)) (val a e)

-- ---- a library method with the values of its arguments

abbrev pub two_values : (ℤ → ℤ → Method) → Option ℤ → Option ℤ → Option Method
two_values f (Some x) (Some y) = Some (f x y)
two_values f (Some x) None = None
two_values f None y = None

abbrev pub crc_values : List Bool → Option (List ℤ) → Option Method
crc_values bits (Some (n ∷ polynomial ∷ initial ∷ len ∷ [])) = Some (lib.crc n polynomial initial bits len)
crc_values bits _ = None

-- none where an argument has no value; the covered bits of a crc are those of its side
abbrev pub method_of : (Subject → Side → List Bool) → Assignment → Library → Option Method
method_of side a (library.UncompressedValue len v) = two_values lib.uncompressed_value (val a len) (val a v)
method_of side a (library.CompressedValue len v) = two_values lib.compressed_value (val a len) (val a v)
method_of side a (library.Irregular len) = option_map lib.irregular (val a len)
method_of side a library.Static = Some lib.static
method_of side a (library.Lsb k offset) = two_values lib.lsb (val a k) (val a offset)
method_of side a (library.Crc crc) = crc_values (side crc.subject crc.side) (vals a (crc.bits ∷ crc.polynomial ∷ crc.initial ∷ crc.length ∷ []))

-- ---- one level

-- The length of the bracket's side is the value of one of its expressions; the conjunct of an ENFORCE is true.
abbrev pub Holds : (Subject → Side → List Bool) → Assignment → Constraint → Type 0
Holds side a (Bracket i which lengths place) =
    (n : ℕ) × (e : Expr) × (slice_get lengths n ≡ Some e) × (val a e ≡ Some (pos (length (side (subject.Field i) which))))
Holds side a (Enforce condition place) = truth a condition ≡ Some true

-- the filling has the listing and the fields of the format
pub record IsShaped (format : Format) (f : Filling) : Type 0 where
  pub listing_is : listing_of f ≡ format.listing
  pub declared_is : map (λ s. s.declared) (level f) ≡ map (λ d. d.declared) format.fields

-- what a level says beside its fields' encodings
pub record LevelFits (format : Format) (f : Filling) (args : List ℤ) : Type 0 where
  pub shaped : IsShaped format f
  -- a field that is not listed has no packed bits
  pub unlisted : (i : ℕ) (s : Sides) → slice_get (level f) i ≡ Some s → lists format.listing i ≡ false → s.compressed ≡ []
  -- each bracket and each conjunct of an ENFORCE holds
  pub constraints : (j : ℕ) (c : Constraint) → slice_get format.constraints j ≡ Some c → Holds (side_of format.listing (level f)) (assigned format.listing (level f) args) c

-- the format of the method k, both by their indices
abbrev pub format_at : List profile.Method → ℕ → ℕ → Option Format
format_at methods k n = option_and_then (λ m. slice_get m.formats n) (slice_get methods k)

-- ---- all levels

mutual
  -- The filling fits the method k, under the values of its arguments and the path of the field that it fills.
  pub data Fits (methods : List profile.Method) (ctx : Context) : ℕ → List ℤ → Path → Filling → Type 0 where
    fits : {k : ℕ} {args : List ℤ} {path : Path} {f : Filling} (format : Format) →
        format_at methods k (out-Filling f).format ≡ Some format →
        LevelFits format f args →
        ((i : ℕ) (d : Field) (g : FilledField) → slice_get format.fields i ≡ Some d → slice_get (fields_of f) i ≡ Some g →
        FieldFits methods ctx (side_of format.listing (level f)) (assigned format.listing (level f) args) path d d.encoding g) →
        Fits methods ctx k args path f

  -- The field fits its encoding, among these sides and numbers.
  pub data FieldFits (methods : List profile.Method) (ctx : Context) : (Subject → Side → List Bool) → Assignment → Path → Field → Encoding → FilledField → Type 0 where
    -- without an encoding: any bits, up to 64, of which none is sent
    bare : {side : Subject → Side → List Bool} {a : Assignment} {path : Path} {d : Field} {g : FilledField} →
        length (sides_of g).uncompressed ≤ 64 →
        (sides_of g).compressed ≡ [] →
        inner_of g ≡ None →
        FieldFits methods ctx side a path d encoding.Bare g
    -- the library method relates its two sides
    coded : {side : Subject → Side → List Bool} {a : Assignment} {path : Path} {d : Field} {l : Library} {g : FilledField} (m : Method) →
        method_of side a l ≡ Some m →
        Lib m (reference_of d.declared.part ctx (below path d.declared.name) d.initial) (sides_of g).uncompressed (sides_of g).compressed →
        inner_of g ≡ None →
        FieldFits methods ctx side a path d (encoding.Library l) g
    -- the called method has a filling, of which the two sides are the header and the packed bits
    called : {side : Subject → Side → List Bool} {a : Assignment} {path : Path} {d : Field} {k : ℕ} {es : List Expr} {g : FilledField} (args : List ℤ) (inner : Filling) →
        vals a es ≡ Some args →
        inner_of g ≡ Some inner →
        Fits methods ctx k args (below path d.declared.name) inner →
        (sides_of g).uncompressed ≡ header inner →
        (sides_of g).compressed ≡ packed inner →
        FieldFits methods ctx side a path d (encoding.Call k es) g
