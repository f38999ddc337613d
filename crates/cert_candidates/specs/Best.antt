-- The best filling for an item (docs/DEFINITIONS.md, Candidates).
use Rattle.std.specs.Prelude.{◌≡◌, ℕ, ◌≤◌, List, [], ◌∷◌}
use Rattle.sem_profile.specs.declared.profile.Method.{Method}
use Rattle.sem_filling.specs.declared.filling.Filling.{Filling}
use Rattle.sem_filling.specs.declared.filling.Item.{Item}
use Rattle.sem_filling.specs.Fillings.{item}
use Rattle.sem_filling.specs.Fits.{Context}
use Rattle.sem_filling.specs.Fronts.{FitsTop}
use Rattle.cert_types.specs.Kept.{Entries}
use Rattle.cert_candidates.specs.Codes.{code}

-- one list of numbers does not come after another: by the first number in which they differ
abbrev pub IsUpTo : List ℕ → List ℕ → Type 0
IsUpTo [] ys = Unit {0}
IsUpTo (x ∷ xs) [] = ⊥
IsUpTo (x ∷ xs) (y ∷ ys) = (x ≤ y) × (x ≡ y → IsUpTo xs ys)

-- The filling fits and has the item; and what fits, has the item and does not come later is the filling itself.
pub record Best (methods : List Method) (cert : Entries) (top : ℕ) (ctx : Context) (it : Item) (f : Filling) : Type 0 where
  pub fits : FitsTop methods top ctx f
  pub has : item f ≡ it
  pub first : (g : Filling) → FitsTop methods top ctx g → item g ≡ it → IsUpTo (code methods cert g top) (code methods cert f top) → g ≡ f
