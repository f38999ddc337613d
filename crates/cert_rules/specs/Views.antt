-- What a filling, or a walk so far, shows of the fields of a format, and when two of them agree (docs/DEFINITIONS.md, Certificates).
use Rattle.std.specs.Prelude.{◌≡◌, ℕ, Bool, List, [], ◌∷◌, length, slice_get, Option}
use Rattle.sem_expr.specs.declared.expr.Side.{Side}
use Rattle.sem_expr.specs.declared.expr.Side.TheVariants.{Compressed}
use Rattle.sem_filling.specs.declared.filling.Filling.{Filling}
use Rattle.sem_filling.specs.Fillings.{Sides, level, inner_at}
use Rattle.sem_filling.specs.Fits.{field_side}
use Rattle.cert_types.specs.declared.rule.Fact.{Fact}
use Rattle.cert_types.specs.declared.rule.Fact.TheVariants.{LengthOf, BitsOf, Done}

-- the sides of a level, and the fillings inside
pub record View : Type 0 where
  pub sides : List Sides
  pub inner : ℕ → Option Filling

-- what a filling shows
abbrev pub view : Filling → View
view f = record { sides = level f; inner = inner_at f }

-- a side of the field at an index
abbrev pub side_at : View → ℕ → Side → List Bool
side_at v i side = field_side (slice_get v.sides i) side

-- two views agree on what a fact tells
abbrev pub Agree : View → View → Fact → Type 0
Agree f g (LengthOf side i) = length (side_at f i side) ≡ length (side_at g i side)
Agree f g (BitsOf side i) = side_at f i side ≡ side_at g i side
Agree f g (Done i) = (side_at f i Compressed ≡ side_at g i Compressed) × (f.inner i ≡ g.inner i)

-- and on all of several
abbrev pub AgreeAll : View → View → List Fact → Type 0
AgreeAll f g [] = Unit {0}
AgreeAll f g (x ∷ xs) = Agree f g x × AgreeAll f g xs
