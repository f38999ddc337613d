-- Which filling stands at a path inside another one (docs/FORMATS.md, `why --not`).
use Rattle.std.specs.Prelude.{◌≡◌, ℕ, ℤ, List, slice_get, Option, Some, None, string_bytes}
use Rattle.sem_expr.specs.declared.expr.Expr.{Expr}
use Rattle.sem_expr.specs.Values.{Assignment}
use Rattle.sem_filling.specs.Entries.{Path, below}
use Rattle.sem_filling.specs.Fillings.{fields_of, inner_of, level}
use Rattle.sem_filling.specs.declared.filling.FilledField.{FilledField}
use Rattle.sem_filling.specs.declared.filling.Filling.{Filling, out-Filling}
use Rattle.sem_filling.specs.Fits.{assigned, format_at, vals}
use Rattle.sem_profile.specs.declared.profile.Encoding.TheVariants as encoding
use Rattle.sem_profile.specs.declared.profile.Field.{Field}
use Rattle.sem_profile.specs.declared.profile.Format.{Format}
use Rattle.sem_profile.specs.declared.profile.Method.{Method}
use Rattle.sem_filling.specs.Ready.{ArgumentsLieAt}
use Rattle.sem_profile.specs.Resolved.{Resolved}
use Rattle.tool_items.specs.declared.inside.Standing.{Standing}

-- From the filling f of the method k, under these arguments and below the path, calls lead down to the filling g of the method j, under its arguments and below its
-- path: a field calls the method of the next filling with the values that the numbers of its level give to the arguments.
pub data LeadsDown (methods : List Method) (j : ℕ) (inner_args : List ℤ) (inner_path : Path) (g : Filling) : ℕ → List ℤ → Path → Filling → Type 0 where
  at_its_end : LeadsDown methods j inner_args inner_path g j inner_args inner_path g
  by_field : {k : ℕ} {args : List ℤ} {path : Path} {f : Filling} (format : Format) (i : ℕ) (d : Field) (x : FilledField) (callee : ℕ) (es : List Expr) (values : List ℤ) (inner : Filling) →
      format_at methods k (out-Filling f).format ≡ Some format → slice_get format.fields i ≡ Some d → slice_get (fields_of f) i ≡ Some x →
      d.encoding ≡ encoding.Call callee es → vals (assigned format.listing (level f) args) es ≡ Some values → inner_of x ≡ Some inner →
      LeadsDown methods j inner_args inner_path g callee values (below path d.declared.name) inner → LeadsDown methods j inner_args inner_path g k args path f

-- they lead down to where this filling stands, and its arguments lie in the ranges of the parameters
abbrev pub StandsBelow : Resolved → ℕ → List ℤ → Path → Filling → Standing → Type 0
StandsBelow p k args path f s = LeadsDown p.methods s.method s.arguments (string_bytes s.path) s.filling.now k args path f × ArgumentsLieAt p s.method s.arguments

-- what is inside a field, if anything, leads down to it
abbrev pub StandsWithin : Resolved → ℕ → List ℤ → Path → Option Filling → Standing → Type 0
StandsWithin p k args path (Some inner) s = StandsBelow p k args path inner s
StandsWithin p k args path None s = ⊥

-- the field i of a format, filled so, leads down to it, by numbers of its level
pub record StandsInField (p : Resolved) (path : Path) (format : Format) (a : Assignment) (i : ℕ) (x : FilledField) (s : Standing) : Type 0 where
  pub field : Field
  pub field_is : slice_get format.fields i ≡ Some field
  pub callee : ℕ
  pub arguments : List Expr
  pub encoding_is : field.encoding ≡ encoding.Call callee arguments
  pub values : List ℤ
  pub values_are : vals a arguments ≡ Some values
  pub stands : StandsWithin p callee values (below path field.declared.name) (inner_of x) s

-- some field does
abbrev pub StandsAmong : Resolved → Path → Format → Assignment → Filling → Standing → Type 0
StandsAmong p path format a f s = (i : ℕ) × (x : FilledField) × (slice_get (fields_of f) i ≡ Some x) × StandsInField p path format a i x s
