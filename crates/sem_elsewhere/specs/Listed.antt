-- The uses of a filling in order: those of a field before those of the fields after it, and in the place of a field that calls a method those of the filling inside.
use Rattle.std.specs.Prelude.{◌≡◌, ◌↔◌, ℕ, ◌+◌, Bool, true, false, List, [], ◌∷◌, ◌++◌, length, slice_get, Some, ℤ}
use Rattle.sem_expr.specs.declared.expr.Expr.{Expr}
use Rattle.sem_expr.specs.declared.expr.Side.{Side}
use Rattle.sem_expr.specs.declared.expr.Subject.{Subject}
use Rattle.sem_expr.specs.Values.{Assignment}
use Rattle.sem_library.specs.Methods as lib
use Rattle.sem_profile.specs.declared.profile.Library.{Library}
use Rattle.sem_profile.specs.declared.profile.Encoding.{Encoding}
use Rattle.sem_profile.specs.declared.profile.Encoding.TheVariants as encoding
use Rattle.sem_profile.specs.declared.profile.Field.{Field}
use Rattle.sem_profile.specs.declared.profile.Format.{Format}
use Rattle.sem_profile.specs.declared.profile.Method.{Method}
use Rattle.sem_filling.specs.declared.filling.Filling.{Filling, out-Filling}
use Rattle.sem_filling.specs.declared.filling.FilledField.{FilledField}
use Rattle.sem_filling.specs.Fillings.{inner_of, fields_of, level}
use Rattle.sem_filling.specs.Entries.{Path, below}
use Rattle.sem_filling.specs.Fits.{format_at, side_of, assigned, method_of, vals}
use Rattle.sem_elsewhere.specs.Uses.{Use, Uses, use_of, refers}

mutual
  -- these are the uses of a filling of the method k, under these arguments and below the path
  pub data UsesAre (methods : List Method) : ℕ → List ℤ → Path → Filling → List Use → Type 0 where
    of_fields : {k : ℕ} {args : List ℤ} {path : Path} {f : Filling} {us : List Use} (format : Format) → format_at methods k (out-Filling f).format ≡ Some format →
        FirstUse methods (side_of format.listing (level f)) (assigned format.listing (level f) args) path format f (length format.fields) us → UsesAre methods k args path f us

  -- those of its first so many fields, among these sides and numbers
  pub data FirstUse (methods : List Method) : (Subject → Side → List Bool) → Assignment → Path → Format → Filling → ℕ → List Use → Type 0 where
    none_yet : {side : Subject → Side → List Bool} {a : Assignment} {path : Path} {format : Format} {f : Filling} → FirstUse methods side a path format f 0 []
    one_more : {side : Subject → Side → List Bool} {a : Assignment} {path : Path} {format : Format} {f : Filling} {n : ℕ} {us more : List Use} (d : Field) (g : FilledField) →
        FirstUse methods side a path format f n us → slice_get format.fields n ≡ Some d → slice_get (fields_of f) n ≡ Some g →
        FieldUses methods side a path d d.encoding g more → FirstUse methods side a path format f (n + 1) (us ++ more)

  -- those of a field by its encoding
  pub data FieldUses (methods : List Method) : (Subject → Side → List Bool) → Assignment → Path → Field → Encoding → FilledField → List Use → Type 0 where
    bare_uses : {side : Subject → Side → List Bool} {a : Assignment} {path : Path} {d : Field} {g : FilledField} → FieldUses methods side a path d encoding.Bare g []
    -- its method refers
    own_use : {side : Subject → Side → List Bool} {a : Assignment} {path : Path} {d : Field} {l : Library} {g : FilledField} (m : lib.Method) →
        method_of side a l ≡ Some m → refers m ≡ true → FieldUses methods side a path d (encoding.Library l) g (use_of path d g m ∷ [])
    -- or doesn't
    no_use : {side : Subject → Side → List Bool} {a : Assignment} {path : Path} {d : Field} {l : Library} {g : FilledField} →
        ((m : lib.Method) → method_of side a l ≡ Some m → refers m ≡ false) → FieldUses methods side a path d (encoding.Library l) g []
    -- a filling stands inside
    inside_use : {side : Subject → Side → List Bool} {a : Assignment} {path : Path} {d : Field} {k : ℕ} {es : List Expr} {g : FilledField} {us : List Use} (values : List ℤ) (inner : Filling) →
        vals a es ≡ Some values → inner_of g ≡ Some inner → UsesAre methods k values (below path d.declared.name) inner us → FieldUses methods side a path d (encoding.Call k es) g us
    -- or none does
    none_inside : {side : Subject → Side → List Bool} {a : Assignment} {path : Path} {d : Field} {k : ℕ} {es : List Expr} {g : FilledField} →
        ((values : List ℤ) (inner : Filling) → vals a es ≡ Some values → inner_of g ≡ Some inner → ⊥) → FieldUses methods side a path d (encoding.Call k es) g []

-- the use is one of these
abbrev pub IsAmong : Use → List Use → Type 0
IsAmong u us = (i : ℕ) × (slice_get us i ≡ Some u)

-- They are all that the filling uses, and no other.
abbrev pub AreItsUses : Type 0
AreItsUses = (methods : List Method) (k : ℕ) (args : List ℤ) (path : Path) (f : Filling) (us : List Use) → UsesAre methods k args path f us → (u : Use) → Uses methods k args path f u ↔ IsAmong u us
