-- When all fillings of a method leave entries at the same paths.
use Rattle.std.specs.Prelude.{◌≡◌, ℕ, List, None, Some, slice_get, reverse}
use Rattle.sem_context.specs.Entries.{bits_at}
use Rattle.sem_expr.specs.declared.expr.Expr.{Expr}
use Rattle.sem_profile.specs.declared.profile.Part.TheVariants.{Local}
use Rattle.sem_profile.specs.declared.profile.Encoding.TheVariants as encoding
use Rattle.sem_profile.specs.declared.profile.Field.{Field}
use Rattle.sem_profile.specs.declared.profile.Format.{Format}
use Rattle.sem_profile.specs.declared.profile.Method.{Method}
use Rattle.sem_filling.specs.declared.filling.Filling.{Filling}
use Rattle.sem_filling.specs.Entries.{Path, entries}
use Rattle.sem_filling.specs.Fits.{Context, format_at}
use Rattle.sem_filling.specs.Fronts.{FitsTop}
use Rattle.sem_profile.specs.Alike.{AreAlike}

-- A header or control field that calls in one format of a method calls the same method in each; a local field calls none.
pub record CallAlike (methods : List Method) : Type 0 where
  pub same : (k n m i j : ℕ) (es : List Expr) (f g : Format) (d e : Field) → format_at methods k n ≡ Some f → format_at methods k m ≡ Some g → slice_get f.fields i ≡ Some d → slice_get g.fields i ≡ Some e
      → (d.declared.part ≡ Local → ⊥) → d.encoding ≡ encoding.Call j es → (others : List Expr) × (e.encoding ≡ encoding.Call j others)
  pub no_local : (k n i j : ℕ) (es : List Expr) (f : Format) (d : Field) → format_at methods k n ≡ Some f → slice_get f.fields i ≡ Some d → d.declared.part ≡ Local → d.encoding ≡ encoding.Call j es → ⊥

-- Then two fillings that fit the top, each in a context of its own, have entries at the same paths.
abbrev pub SamePaths : Type 0
SamePaths = (methods : List Method) (top : ℕ) → AreAlike methods → CallAlike methods → (ctx other : Context) (f g : Filling) → FitsTop methods top ctx f → FitsTop methods top other g →
    (path : Path) → bits_at (reverse (entries g)) path ≡ None → bits_at (reverse (entries f)) path ≡ None
