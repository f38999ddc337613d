-- What a filling more adds to sums.
use Rattle.std.specs.Prelude.{◌≡◌, ℕ, ◌+◌, List, [], ◌∷◌, ◌++◌, length, Option, None, Some}
use Rattle.sem_filling.specs.declared.filling.Filling.{Filling}
use Rattle.sem_filling.specs.declared.filling.FilledField.{FilledField}
use Rattle.sem_filling.specs.Fillings.{inner_at, inner_of, sides_of}
use Rattle.tool_items.specs.declared.sums.Sums.{Sums}
use Rattle.tool_items.specs.declared.sums.FormatSums.{FormatSums}
use Rattle.tool_items.specs.declared.sums.PlaceSums.{PlaceSums}
use Rattle.tool_items.specs.Counts.{bits_at, inner_in, one_more, side_length}
use Rattle.tool_items.specs.Sums.{AreBelow, Level, Row, Spot, level_of, row_in, row_of, spot_in, spot_of}

-- whatever fillings the sums were over, they are over these and the filling
abbrev pub AddsBelow : Filling → Level → Level → Type 0
AddsBelow f old new = (fs : List Filling) → AreBelow fs old → AreBelow (fs ++ f ∷ []) new

abbrev pub Adds : Filling → Sums → Sums → Type 0
Adds f old new = AddsBelow f (level_of old) (level_of new)

abbrev pub AddsInside : Option Filling → Level → Level → Type 0
AddsInside None old new = new ≡ old
AddsInside (Some f) old new = AddsBelow f old new

-- to a place are added so many bits, and what is inside
pub record SpotAdds (bits : ℕ) (inner : Option Filling) (old new : Spot) : Type 0 where
  pub bits_are : new.bits ≡ old.bits + bits
  pub inside_is : AddsInside inner old.inside new.inside

-- a field adds its compressed side and the filling inside it
abbrev pub FieldAdds : FilledField → PlaceSums → PlaceSums → Type 0
FieldAdds g old new = SpotAdds (length (sides_of g).compressed) (inner_of g) (spot_of old) (spot_of new)

abbrev pub ListedAdds : Filling → ℕ → PlaceSums → PlaceSums → Type 0
ListedAdds f i old new = SpotAdds (side_length f i) (inner_at f i) (spot_of old) (spot_of new)

-- a filling adds itself to a format, and each listed field to its place
pub record RowAdds (f : Filling) (old new : Row) : Type 0 where
  pub all_is : new.all ≡ one_more f old.all
  pub places_add : (p : ℕ) → SpotAdds (bits_at p f) (inner_in p f) (spot_in old.places p) (spot_in new.places p)

abbrev pub FormatAdds : Filling → FormatSums → FormatSums → Type 0
FormatAdds f old new = RowAdds f (row_of old) (row_of new)

-- there may be more of nothing
abbrev pub SameFormats : List FormatSums → List FormatSums → Type 0
SameFormats old new = (n : ℕ) → row_in new n ≡ row_in old n

abbrev pub SamePlaces : List PlaceSums → List PlaceSums → Type 0
SamePlaces old new = (p : ℕ) → spot_in new p ≡ spot_in old p
