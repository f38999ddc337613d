-- Sums over fillings, kept by format and place, and inside each place again.
use Rattle.std.specs.Prelude.{◌≡◌, ℕ, List, [], ◌∷◌, slice_get, option_map, unwrap_or}
use Rattle.sem_filling.specs.declared.filling.Filling.{Filling}
use Rattle.tool_items.specs.declared.counts.Tally.{Tally}
use Rattle.tool_items.specs.declared.sums.Sums.{Sums, out-Sums}
use Rattle.tool_items.specs.declared.sums.FormatSums.{FormatSums, out-FormatSums}
use Rattle.tool_items.specs.declared.sums.PlaceSums.{PlaceSums, out-PlaceSums}
use Rattle.tool_items.specs.Counts.{bits_of_field, insides, tally, tally_format}

-- what sums say of all fillings, with those of each format; of a format, with those of each place; and of a place, with what is inside
pub record Level : Type 0 where
  pub all : Tally
  pub formats : List FormatSums

pub record Row : Type 0 where
  pub all : Tally
  pub places : List PlaceSums

pub record Spot : Type 0 where
  pub bits : ℕ
  pub inside : Level

abbrev pub level_of : Sums → Level
level_of s = record { all = (out-Sums s).all; formats = (out-Sums s).formats.items }

abbrev pub row_of : FormatSums → Row
row_of g = record { all = (out-FormatSums g).all; places = (out-FormatSums g).places.items }

abbrev pub spot_of : PlaceSums → Spot
spot_of q = record { bits = (out-PlaceSums q).bits; inside = level_of (out-PlaceSums q).inside }

-- those of nothing
abbrev pub no_level : Level
no_level = record { all = tally []; formats = [] }

abbrev pub no_row : Row
no_row = record { all = tally []; places = [] }

abbrev pub no_spot : Spot
no_spot = record { bits = 0; inside = no_level }

-- of the format n, and of the place p of a format; of nothing where none are kept
abbrev pub row_in : List FormatSums → ℕ → Row
row_in formats n = unwrap_or (option_map row_of (slice_get formats n)) no_row

abbrev pub spot_in : List PlaceSums → ℕ → Spot
spot_in places p = unwrap_or (option_map spot_of (slice_get places p)) no_spot

abbrev pub spot_at : ℕ → ℕ → Level → Spot
spot_at n p l = spot_in (row_in l.formats n).places p

-- ---- along a path of formats and places

abbrev pub along : List (ℕ × ℕ) → Level → Level
along [] l = l
along (at ∷ path) l = along path (spot_at at.0 at.1 l).inside

abbrev pub within : List (ℕ × ℕ) → List Filling → List Filling
within [] fs = fs
within (at ∷ path) fs = within path (insides at.0 at.1 fs)

-- the sums of a level are those over these fillings
pub record AreTallied (fs : List Filling) (l : Level) : Type 0 where
  pub all_is : l.all ≡ tally fs
  pub formats_are : (n : ℕ) → (row_in l.formats n).all ≡ tally_format n fs
  pub places_are : (n p : ℕ) → (spot_at n p l).bits ≡ bits_of_field n p fs

-- and so are those along each path, over the fillings that are inside there
abbrev pub AreBelow : List Filling → Level → Type 0
AreBelow fs l = (path : List (ℕ × ℕ)) → AreTallied (within path fs) (along path l)

-- These are the sums over the fillings.
abbrev pub AreSums : List Filling → Sums → Type 0
AreSums fs s = AreBelow fs (level_of s)
