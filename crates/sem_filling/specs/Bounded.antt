-- The lengths of a fitting filling lie in the bounds of its methods, and its arguments in the ranges of the parameters.
use Rattle.std.specs.Prelude.{◌≡◌, ℕ, ◌≤◌, ◌^◌, ℤ, List, length, slice_get, Option, Some, option_and_then}
use Rattle.sem_expr.specs.declared.expr.Expr.{Expr}
use Rattle.sem_expr.specs.declared.interval.Interval.{Interval}
use Rattle.sem_expr.specs.Rules.{IsIn}
use Rattle.sem_profile.specs.declared.profile.Bounds.{Bounds}
use Rattle.sem_profile.specs.declared.profile.Sizes.{Sizes}
use Rattle.sem_profile.specs.declared.profile.FormatSizes.{FormatSizes}
use Rattle.sem_profile.specs.declared.profile.MethodSizes.{MethodSizes}
use Rattle.sem_profile.specs.declared.profile.Encoding.TheVariants as encoding
use Rattle.sem_profile.specs.declared.profile.Field.{Field}
use Rattle.sem_profile.specs.declared.profile.Format.{Format}
use Rattle.sem_profile.specs.declared.profile.Method.{Method}
use Rattle.sem_profile.specs.HeaderLimit.{header_limit}
use Rattle.sem_profile.specs.Outcome.{AreSizes}
use Rattle.sem_filling.specs.declared.filling.Filling.{Filling, out-Filling}
use Rattle.sem_filling.specs.declared.filling.FilledField.{FilledField}
use Rattle.sem_filling.specs.Fillings.{Sides, level, fields_of, inner_of, header, packed}
use Rattle.sem_filling.specs.Entries.{Path}
use Rattle.sem_filling.specs.Fits.{Context, Fits, assigned, vals, format_at}

-- the bounds of the format n of the method k
abbrev pub sizes_at : List MethodSizes → ℕ → ℕ → Option FormatSizes
sizes_at table k n = option_and_then (λ s. slice_get s.formats n) (slice_get table k)

pub record LiesBetween (b : Bounds) (n : ℕ) : Type 0 where
  pub least : b.least ≤ n
  pub most : n ≤ b.most

-- the lengths of the two sides of a field, or of the header and the packed bits
pub record SidesLie (b : Sizes) (uncompressed compressed : ℕ) : Type 0 where
  pub uncompressed_lies : LiesBetween b.uncompressed uncompressed
  pub compressed_lies : LiesBetween b.compressed compressed

-- those of each field, and of the whole
pub record LengthsLie (sizes : FormatSizes) (f : Filling) : Type 0 where
  pub fields : (i : ℕ) (s : Sides) (b : Sizes) → slice_get (level f) i ≡ Some s → slice_get sizes.fields i ≡ Some b → SidesLie b (length s.uncompressed) (length s.compressed)
  pub whole : SidesLie sizes.whole (length (header f)) (length (packed f))

-- In every fitting filling each length lies in the bounds of its field, and those of the whole in its format's and its method's.
abbrev pub LengthsLieInBounds : Type 0
LengthsLieInBounds = (methods : List Method) (table : List MethodSizes) → AreSizes methods table →
    (ctx : Context) (k : ℕ) (args : List ℤ) (path : Path) (f : Filling) → Fits methods ctx k args path f →
    (s : MethodSizes) (sizes : FormatSizes) → slice_get table k ≡ Some s → slice_get s.formats (out-Filling f).format ≡ Some sizes →
    LengthsLie sizes f × SidesLie s.whole (length (header f)) (length (packed f))

-- Both sides of a fitting filling are short.
abbrev pub SidesAreShort : Type 0
SidesAreShort = (methods : List Method) (table : List MethodSizes) → AreSizes methods table → (ctx : Context) (k : ℕ) (args : List ℤ) (path : Path) (f : Filling) →
    Fits methods ctx k args path f → (length (header f) ≤ header_limit) × (length (packed f) ≤ 2 ^ 18)

-- each argument lies in the range of its parameter
pub record ArgumentsLie (ranges : List Interval) (args : List ℤ) : Type 0 where
  pub count : length args ≡ length ranges
  pub each : (i : ℕ) (r : Interval) (v : ℤ) → slice_get ranges i ≡ Some r → slice_get args i ≡ Some v → IsIn r v

-- a call has as many arguments as the called method has parameters
abbrev pub AreCounted : List Method → Type 0
AreCounted methods = (k n i j : ℕ) (m callee : Method) (format : Format) (d : Field) (es : List Expr) → slice_get methods k ≡ Some m → slice_get m.formats n ≡ Some format →
    slice_get format.fields i ≡ Some d → d.encoding ≡ encoding.Call j es → slice_get methods j ≡ Some callee → length es ≡ length callee.parameters

-- from the method k and its arguments, which f fills, calls lead down to the method j and its arguments, which g fills
pub data LeadsTo (methods : List Method) (j : ℕ) (inner_args : List ℤ) (g : Filling) : ℕ → List ℤ → Filling → Type 0 where
  itself : LeadsTo methods j inner_args g j inner_args g
  by_call : {k : ℕ} {args : List ℤ} {f : Filling} (format : Format) (i : ℕ) (d : Field) (x : FilledField) (l : ℕ) (es : List Expr) (between : List ℤ) (inner : Filling) →
      format_at methods k (out-Filling f).format ≡ Some format → slice_get format.fields i ≡ Some d → slice_get (fields_of f) i ≡ Some x →
      d.encoding ≡ encoding.Call l es → vals (assigned format.listing (level f) args) es ≡ Some between → inner_of x ≡ Some inner →
      LeadsTo methods j inner_args g l between inner → LeadsTo methods j inner_args g k args f

-- In every fitting filling whose arguments lie in the ranges of the parameters, so do those of all fillings in it.
abbrev pub ArgumentsLieInRanges : Type 0
ArgumentsLieInRanges = (methods : List Method) (table : List MethodSizes) → AreSizes methods table → AreCounted methods →
    (ctx : Context) (k : ℕ) (args : List ℤ) (path : Path) (f : Filling) (s : MethodSizes) → Fits methods ctx k args path f → slice_get table k ≡ Some s → ArgumentsLie s.parameters args →
    (j : ℕ) (inner_args : List ℤ) (g : Filling) (t : MethodSizes) → LeadsTo methods j inner_args g k args f → slice_get table j ≡ Some t → ArgumentsLie t.parameters inner_args
