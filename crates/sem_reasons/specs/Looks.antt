-- What a look at a format goes by.
use Rattle.std.specs.Prelude.{◌≡◌, ℕ, List, Bool, length, slice_get, Option, Some}
use Rattle.sem_expr.specs.Bounds.{bounding_of}
use Rattle.sem_expr.specs.declared.expr.Side.{Side}
use Rattle.sem_filling.specs.Bounded.{sizes_at}
use Rattle.sem_filling.specs.Fits.{format_at}
use Rattle.sem_reasons.specs.Settings.{setting_of}
use Rattle.sem_reasons.specs.Places.{order_of}
use Rattle.sem_profile.specs.declared.profile.Field.{Field}
use Rattle.sem_reasons.specs.Full.{IsAcross, IsSeenOn, first_told, plain_method}
use Rattle.sem_reasons.specs.Told.{base_ranges, lengths_from, reference_in, seen_side}
use Rattle.sem_reasons.specs.declared.observation.Look.{Look}
use Rattle.sem_reasons.specs.declared.sight.ObservedSides.{ObservedSides}

-- a format of the question's method with its bounds, the order of the fields on the question's side, and the ranges by the bounds
pub record IsLook (k : Look) (n : ℕ) : Type 0 where
  pub format_is : format_at k.question.profile.now.methods k.question.method n ≡ Some k.format.now
  pub sizes_are : sizes_at k.question.profile.now.sizes k.question.method n ≡ Some k.sizes.now
  pub order_is : k.order.now ≡ order_of k.format.now k.question.side
  pub lengths_are : k.lengths.now ≡ lengths_from (setting_of k.question) k.base.now k.sizes.now 0 k.format.now.fields
  pub base_is : k.base.now ≡ base_ranges (setting_of k.question) k.sizes.now

-- what is told first of that side of the field i
abbrev pub FirstOf : Look → ℕ → Field → Side → Option (List Bool)
FirstOf k i d side = first_told (setting_of k.question) k.format.now k.sizes.now i d side

-- what its method relates to these bits
abbrev pub AcrossOf : Look → Field → Side → List Bool → Option (List Bool) → Type 0
AcrossOf k d side own o = IsAcross (plain_method (bounding_of (base_ranges (setting_of k.question) k.sizes.now)) d.encoding) (reference_in (setting_of k.question) d) side own o

abbrev pub SeenOn : Look → ℕ → Field → Side → Option (List Bool) → Type 0
SeenOn k i d side o = IsSeenOn (setting_of k.question) k.format.now k.sizes.now i d side o

abbrev pub SeenOf : Look → ℕ → ObservedSides → Type 0
SeenOf k i sight = (d : Field) → slice_get k.format.now.fields i ≡ Some d → (side : Side) → SeenOn k i d side (seen_side sight side)

-- these are what is seen of the first fields
pub record SoFar (k : Look) (sights : List ObservedSides) (n : ℕ) : Type 0 where
  pub count : length sights ≡ n
  pub each : (i : ℕ) (sight : ObservedSides) → slice_get sights i ≡ Some sight → SeenOf k i sight
