-- What a level of a filling is, and what makes it ready to be judged.
use Rattle.std.specs.Prelude.{Bool, ◌≡◌, ◌<◌, ℕ, ℤ, List, length, slice_get, Some, None}
use Rattle.text_source.specs.declared.span.Span.{Span}
use Rattle.sem_expr.specs.declared.known.Known.{Known}
use Rattle.sem_expr.specs.declared.expr.Expr.{Expr}
use Rattle.sem_expr.specs.declared.expr.Cond.{Cond}
use Rattle.sem_expr.specs.Known.{assignment_of}
use Rattle.sem_expr.specs.Spread.{IsRanged, AreRanged}
use Rattle.sem_profile.specs.declared.profile.Encoding.TheVariants as encoding
use Rattle.sem_profile.specs.declared.profile.Field.{Field}
use Rattle.sem_profile.specs.declared.profile.Constraint.TheVariants.{Enforce}
use Rattle.sem_profile.specs.declared.profile.Format.{Format}
use Rattle.sem_profile.specs.declared.profile.FormatSizes.{FormatSizes}
use Rattle.sem_profile.specs.declared.profile.MethodSizes.{MethodSizes}
use Rattle.sem_profile.specs.BoundsLaws.{StandsIn}
use Rattle.sem_profile.specs.Resolved.{Resolved}
use Rattle.sem_profile.specs.declared.profile.Method.{Method}
use Rattle.sem_expr.specs.Values.{Assignment}
use Rattle.sem_filling.specs.declared.filling.Filling.{Filling, out-Filling}
use Rattle.sem_filling.specs.declared.filling.FilledField.{FilledField}
use Rattle.sem_filling.specs.Fillings.{level, sides_of, inner_of, fields_of, listing_of, header, packed}
use Rattle.sem_filling.specs.Entries.{Path, below}
use Rattle.sem_filling.specs.Fits.{Context, Fits, FieldFits, IsShaped, format_at, side_of, vals, method_of, reference_of}
use Rattle.sem_library.specs.Methods as lib
use Rattle.sem_profile.specs.declared.profile.Library.{Library}
use Rattle.sem_filling.specs.Bounded.{sizes_at, LengthsLie, ArgumentsLie}
use Rattle.sem_filling.specs.Numbers.{known_level}

-- the arguments of the method k lie in the ranges of its parameters
abbrev pub ArgumentsLieAt : Resolved → ℕ → List ℤ → Type 0
ArgumentsLieAt p k args = (s : MethodSizes) → slice_get p.sizes k ≡ Some s → ArgumentsLie s.parameters args

-- the format's expressions may be evaluated under the known numbers, and its calls may be judged
pub record IsReady (p : Resolved) (format : Format) (known : Known) : Type 0 where
  pub expressions : (e : Expr) → StandsIn format e → IsRanged (assignment_of known) e
  pub conditions : (j : ℕ) (c : Cond) (place : Span) → slice_get format.constraints j ≡ Some (Enforce c place) → AreRanged (assignment_of known) c
  pub callees : (i k : ℕ) (d : Field) (es : List Expr) → slice_get format.fields i ≡ Some d → d.encoding ≡ encoding.Call k es → k < length p.methods
  pub arguments : (i k : ℕ) (d : Field) (es : List Expr) (args : List ℤ) → slice_get format.fields i ≡ Some d → d.encoding ≡ encoding.Call k es →
      vals (assignment_of known) es ≡ Some args → ArgumentsLieAt p k args

-- ---- one level

-- the field at the place fits its encoding, under these numbers
abbrev pub FieldFitsAt : List Method → Context → Path → Format → Filling → Assignment → ℕ → FilledField → Type 0
FieldFitsAt methods ctx path format f a i g = (d : Field) → slice_get format.fields i ≡ Some d → FieldFits methods ctx (side_of (listing_of f) (level f)) a path d d.encoding g

-- so does each field
abbrev pub AllFit : List Method → Context → Path → Format → Filling → Assignment → Type 0
AllFit methods ctx path format f a = (i : ℕ) (g : FilledField) → slice_get (fields_of f) i ≡ Some g → FieldFitsAt methods ctx path format f a i g

-- nothing that fits the method under these arguments is this filling
abbrev pub NeverFits : List Method → ℕ → List ℤ → Filling → Type 0
NeverFits methods k args f = (ctx : Context) (path : Path) → Fits methods ctx k args path f → ⊥

-- the format of a filling, with its bounds
pub record IsPlace (p : Resolved) (k : ℕ) (f : Filling) (format : Format) (sizes : FormatSizes) : Type 0 where
  pub format_is : format_at p.methods k (out-Filling f).format ≡ Some format
  pub sizes_are : sizes_at p.sizes k (out-Filling f).format ≡ Some sizes
  pub shaped : IsShaped format f

-- the filling has no format of the method, or has not its shape
abbrev pub NeverPlaced : List Method → ℕ → Filling → Type 0
NeverPlaced methods k f = (args : List ℤ) → NeverFits methods k args f

-- the two sides of the whole, and as many fields as the format has
pub record IsShown (format : Format) (f : Filling) (header_is packed_is : List Bool) : Type 0 where
  pub header_same : header_is ≡ header f
  pub packed_same : packed_is ≡ packed f
  pub count : length (fields_of f) ≡ length format.fields

-- a level of a filling whose lengths lie in their bounds
pub record IsLevel (p : Resolved) (k : ℕ) (args : List ℤ) (f : Filling) (format : Format) (known : Known) (sizes : FormatSizes) : Type 0 where
  pub place : IsPlace p k f format sizes
  pub known_is : known ≡ known_level f args
  pub lie : LengthsLie sizes f

pub record HasLevel (p : Resolved) (k : ℕ) (args : List ℤ) (f : Filling) (format : Format) (known : Known) : Type 0 where
  pub sizes : FormatSizes
  pub level : IsLevel p k args f format known sizes

-- ---- one field

-- the field has no filling, and the library method relates its two sides
pub record IsCoded (ctx : Context) (path : Path) (f : Filling) (a : Assignment) (d : Field) (l : Library) (g : FilledField) : Type 0 where
  pub outer : inner_of g ≡ None
  pub method : lib.Method
  pub method_is : method_of (side_of (listing_of f) (level f)) a l ≡ Some method
  pub related : lib.Lib method (reference_of d.declared.part ctx (below path d.declared.name) d.initial) (sides_of g).uncompressed (sides_of g).compressed

-- the values of these arguments lie in the ranges of the parameters of the method k
abbrev pub ValuesLieAt : Resolved → Known → ℕ → List Expr → Type 0
ValuesLieAt p known k es = (args : List ℤ) → vals (assignment_of known) es ≡ Some args → ArgumentsLieAt p k args

-- the field has a filling that fits the method k under these arguments, and of which its two sides are the header and the packed bits
pub record IsFilled (methods : List Method) (ctx : Context) (k : ℕ) (args : List ℤ) (path : Path) (g : FilledField) : Type 0 where
  pub inner : Filling
  pub inner_is : inner_of g ≡ Some inner
  pub inner_fits : Fits methods ctx k args path inner
  pub header_is : (sides_of g).uncompressed ≡ header inner
  pub packed_is : (sides_of g).compressed ≡ packed inner

-- the same under the values of these expressions, below the path of the field
pub record IsCalled (methods : List Method) (ctx : Context) (path : Path) (a : Assignment) (d : Field) (k : ℕ) (es : List Expr) (g : FilledField) : Type 0 where
  pub args : List ℤ
  pub values_are : vals a es ≡ Some args
  pub filled : IsFilled methods ctx k args (below path d.declared.name) g
