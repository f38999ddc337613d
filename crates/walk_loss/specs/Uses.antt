-- What a filling uses, field by field (docs/DEFINITIONS.md, Losses).
use Rattle.std.specs.Prelude.{◌≡◌, ℕ, Bool, false, List, [], slice_get, Option, Some, None, ℤ}
use Rattle.sem_expr.specs.declared.expr.Expr.{Expr}
use Rattle.sem_expr.specs.declared.expr.Side.{Side}
use Rattle.sem_expr.specs.declared.expr.Subject.{Subject}
use Rattle.sem_expr.specs.Values.{Assignment}
use Rattle.sem_library.specs.Methods as lib
use Rattle.sem_profile.specs.declared.profile.Library.{Library}
use Rattle.sem_profile.specs.declared.profile.Encoding.TheVariants as encoding
use Rattle.sem_profile.specs.declared.profile.Field.{Field}
use Rattle.sem_profile.specs.declared.profile.Format.{Format}
use Rattle.sem_profile.specs.declared.profile.Method.{Method}
use Rattle.sem_filling.specs.declared.filling.Filling.{Filling}
use Rattle.sem_filling.specs.declared.filling.FilledField.{FilledField}
use Rattle.sem_filling.specs.Fillings.{inner_of, level, listing_of}
use Rattle.sem_filling.specs.Entries.{Path, below}
use Rattle.sem_filling.specs.Fits.{Context, Fits, method_of, side_of, vals}
use Rattle.sem_filling.specs.Ready.{AllFit, FieldFitsAt}
use Rattle.sem_elsewhere.specs.Uses.{Use, refers}
use Rattle.sem_elsewhere.specs.Listed.{FieldUses, FirstUse, UsesAre}
use Rattle.walk_loss.specs.declared.uses.Referring.{Referring}
use Rattle.walk_loss.specs.declared.uses.Referring.TheVariants as referring

-- the filling fits the method in some context
pub record FitsAnywhere (methods : List Method) (k : ℕ) (args : List ℤ) (path : Path) (f : Filling) : Type 0 where
  pub context : Context
  pub fits : Fits methods context k args path f

abbrev pub method : Referring → lib.Method
method referring.Static = lib.static
method (referring.Lsb bits offset) = lib.lsb bits offset

-- ---- field by field

abbrev pub sides : Filling → Subject → Side → List Bool
sides f = side_of (listing_of f) (level f)

pub record AllFitAnywhere (methods : List Method) (path : Path) (format : Format) (f : Filling) (a : Assignment) : Type 0 where
  pub context : Context
  pub fit : AllFit methods context path format f a

pub record FieldFitsAnywhere (methods : List Method) (path : Path) (format : Format) (f : Filling) (a : Assignment) (i : ℕ) (g : FilledField) : Type 0 where
  pub context : Context
  pub fits : FieldFitsAt methods context path format f a i g

-- what is inside the field fits the called method, under the values of these arguments
abbrev pub CallFitsAnywhere : List Method → Path → Field → Assignment → ℕ → List Expr → FilledField → Type 0
CallFitsAnywhere methods path d a k es g = (args : List ℤ) (inner : Filling) → vals a es ≡ Some args → inner_of g ≡ Some inner → FitsAnywhere methods k args (below path d.declared.name) inner

-- so does the filling of a field, if it has one
abbrev pub InnerFitsAnywhere : List Method → ℕ → List ℤ → Path → Option Filling → Type 0
InnerFitsAnywhere methods k args path (Some inner) = FitsAnywhere methods k args path inner
InnerFitsAnywhere methods k args path None = Unit {0}

-- these are the uses of the filling of a field, if it has one
abbrev pub UsesWithin : List Method → ℕ → List ℤ → Path → Option Filling → List Use → Type 0
UsesWithin methods k args path (Some inner) us = UsesAre methods k args path inner us
UsesWithin methods k args path None us = us ≡ []

-- those of the first n fields of a level
abbrev pub FirstUses : List Method → Path → Format → Filling → Assignment → ℕ → List Use → Type 0
FirstUses methods path format f a n us = FirstUse methods (sides f) a path format f n us

-- those of the field i
pub record UsesAt (methods : List Method) (path : Path) (format : Format) (f : Filling) (a : Assignment) (i : ℕ) (g : FilledField) (us : List Use) : Type 0 where
  pub field : Field
  pub field_is : slice_get format.fields i ≡ Some field
  pub uses_are : FieldUses methods (sides f) a path field field.encoding g us

-- those of a field with a library method, whatever the sides of the others are
abbrev pub UsesBy : Path → Field → Assignment → Library → FilledField → List Use → Type 0
UsesBy path d a l g us = (methods : List Method) (side : Subject → Side → List Bool) → FieldUses methods side a path d (encoding.Library l) g us

-- those of a field that calls a method
abbrev pub UsesInside : List Method → Path → Field → Assignment → ℕ → List Expr → FilledField → List Use → Type 0
UsesInside methods path d a k es g us = (side : Subject → Side → List Bool) → FieldUses methods side a path d (encoding.Call k es) g us

-- ---- one method

-- the method says nothing of the reference, whatever the sides are
abbrev pub RefersNot : Assignment → Library → Type 0
RefersNot a l = (side : Subject → Side → List Bool) (m : lib.Method) → method_of side a l ≡ Some m → refers m ≡ false

abbrev pub IsReferring : Assignment → Library → Referring → Type 0
IsReferring a l r = (side : Subject → Side → List Bool) → method_of side a l ≡ Some (method r)
