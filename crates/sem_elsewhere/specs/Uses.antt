-- Which references a filling uses, at all levels, and what it asks of each.
use Rattle.std.specs.Prelude.{◌≡◌, ℕ, Bool, true, false, List, slice_get, Option, Some, ℤ}
use Rattle.sem_expr.specs.declared.expr.Expr.{Expr}
use Rattle.sem_library.specs.Methods.{Lib}
use Rattle.sem_library.specs.Methods as lib
use Rattle.sem_profile.specs.declared.profile.Part.{Part}
use Rattle.sem_profile.specs.declared.profile.Library.{Library}
use Rattle.sem_profile.specs.declared.profile.Library.TheVariants as library
use Rattle.sem_profile.specs.declared.profile.Encoding.{Encoding}
use Rattle.sem_profile.specs.declared.profile.Encoding.TheVariants as encoding
use Rattle.sem_profile.specs.declared.profile.Field.{Field}
use Rattle.sem_profile.specs.declared.profile.Format.{Format}
use Rattle.sem_profile.specs.declared.profile.Method.{Method}
use Rattle.sem_filling.specs.declared.filling.Filling.{Filling, out-Filling}
use Rattle.sem_filling.specs.declared.filling.FilledField.{FilledField}
use Rattle.sem_filling.specs.Fillings.{sides_of, inner_of, fields_of, level}
use Rattle.sem_filling.specs.Entries.{Path, below}
use Rattle.sem_filling.specs.Fits.{Context, format_at, side_of, assigned, method_of, reference_of, vals}

-- a use of a reference: of which field, by its path, part and value of INITIAL; by which method, and for which two sides
pub record Use : Type 0 where
  pub part : Part
  pub path : Path
  pub initial : Option (List Bool)
  pub method : lib.Method
  pub uncompressed : List Bool
  pub compressed : List Bool

-- whether a method says anything of the reference
abbrev pub refers : lib.Method → Bool
refers (lib.uncompressed_value len val) = false
refers (lib.compressed_value len val) = false
refers (lib.irregular len) = false
refers lib.static = true
refers (lib.lsb k offset) = true
refers (lib.crc bits poly init covered len) = false

-- the same of an encoding, whatever its arguments' values
abbrev pub refers_by : Library → Bool
refers_by (library.UncompressedValue len v) = false
refers_by (library.CompressedValue len v) = false
refers_by (library.Irregular len) = false
refers_by library.Static = true
refers_by (library.Lsb k offset) = true
refers_by (library.Crc crc) = false

-- the use that a field at its place makes by a method
abbrev pub use_of : Path → Field → FilledField → lib.Method → Use
use_of path d g m = record {
  part = d.declared.part;
  path = below path d.declared.name;
  initial = d.initial;
  method = m;
  uncompressed = (sides_of g).uncompressed;
  compressed = (sides_of g).compressed;
}

-- The filling of the method k, under the values of its arguments and below a path, uses a reference: by a field of its own, or by a filling inside.
pub data Uses (methods : List Method) : ℕ → List ℤ → Path → Filling → Use → Type 0 where
  own : {k : ℕ} {args : List ℤ} {path : Path} {f : Filling} (format : Format) (i : ℕ) (d : Field) (g : FilledField) (l : Library) (m : lib.Method) →
      format_at methods k (out-Filling f).format ≡ Some format → slice_get format.fields i ≡ Some d → slice_get (fields_of f) i ≡ Some g → d.encoding ≡ encoding.Library l →
      method_of (side_of format.listing (level f)) (assigned format.listing (level f) args) l ≡ Some m → refers m ≡ true → Uses methods k args path f (use_of path d g m)
  inside : {k : ℕ} {args : List ℤ} {path : Path} {f : Filling} {u : Use} (format : Format) (i : ℕ) (d : Field) (g : FilledField) (j : ℕ) (es : List Expr) (values : List ℤ) (inner : Filling) →
      format_at methods k (out-Filling f).format ≡ Some format → slice_get format.fields i ≡ Some d → slice_get (fields_of f) i ≡ Some g → d.encoding ≡ encoding.Call j es →
      vals (assigned format.listing (level f) args) es ≡ Some values → inner_of g ≡ Some inner → Uses methods j values (below path d.declared.name) inner u → Uses methods k args path f u

-- The reference that this context has for it serves: by it the two sides belong together, too.
abbrev pub Serves : Context → Use → Type 0
Serves ctx u = Lib u.method (reference_of u.part ctx u.path u.initial) u.uncompressed u.compressed

-- Each reference that the filling uses serves in this context.
abbrev pub AllServe : List Method → Context → ℕ → List ℤ → Path → Filling → Type 0
AllServe methods ctx k args path f = (u : Use) → Uses methods k args path f u → Serves ctx u

-- ---- formats that use none

mutual
  -- no field of the format has `static` or `lsb`, nor has one of any format of a method that a field calls
  pub data StandsAlone (methods : List Method) : Format → Type 0 where
    alone : {format : Format} → ((i : ℕ) (d : Field) → slice_get format.fields i ≡ Some d → FieldAlone methods d.encoding) → StandsAlone methods format

  pub data FieldAlone (methods : List Method) : Encoding → Type 0 where
    bare_alone : FieldAlone methods encoding.Bare
    coded_alone : {l : Library} → refers_by l ≡ false → FieldAlone methods (encoding.Library l)
    called_alone : {k : ℕ} {es : List Expr} → ((n : ℕ) (format : Format) → format_at methods k n ≡ Some format → StandsAlone methods format) → FieldAlone methods (encoding.Call k es)
