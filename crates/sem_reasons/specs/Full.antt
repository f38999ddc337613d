-- What is seen of a format in all: of each side of a field what is told of it first (docs/DEFINITIONS.md, Reasons).
use Rattle.std.specs.Prelude.{◌≡◌, ℕ, nat_le, Bool, List, [], length, slice_get, Option, Some, None, option_map, option_and_then, if◌then◌else◌}
use Rattle.std.specs.Option.{option_or}
use Rattle.sem_expr.specs.declared.expr.Side.{Side}
use Rattle.sem_expr.specs.declared.expr.Side.TheVariants.{Uncompressed, Compressed}
use Rattle.sem_expr.specs.Bounds.{bounding_of}
use Rattle.sem_expr.specs.Ranged.{Bounding}
use Rattle.sem_library.specs.Methods as lib
use Rattle.sem_library.specs.Methods.{IsOnly}
use Rattle.sem_profile.specs.declared.profile.Encoding.{Encoding}
use Rattle.sem_profile.specs.declared.profile.Encoding.TheVariants as encoding
use Rattle.sem_profile.specs.declared.profile.Field.{Field}
use Rattle.sem_profile.specs.declared.profile.Format.{Format}
use Rattle.sem_profile.specs.declared.profile.FormatSizes.{FormatSizes}
use Rattle.sem_profile.specs.declared.profile.Library.{Library}
use Rattle.sem_filling.specs.declared.filling.AskedValue.{AskedValue}
use Rattle.sem_filling.specs.Bounded.{sizes_at}
use Rattle.sem_filling.specs.Fits.{format_at}
use Rattle.sem_reasons.specs.Figures.{same_side}
use Rattle.sem_reasons.specs.Places.{held, order_of}
use Rattle.sem_reasons.specs.Settings.{Setting}
use Rattle.sem_reasons.specs.Told.{Related, asked_before, base_ranges, is_crc, joined, leaves_empty, length_of, method_in, opposite, reference_in, seen_side}
use Rattle.sem_reasons.specs.declared.sight.Observed.{Observed}
use Rattle.sem_reasons.specs.declared.sight.ObservedSides.{ObservedSides}

-- the value that is asked for of the field i, which is an asked one
abbrev pub asked_value : Setting → Format → ℕ → Option (List Bool)
asked_value s format i = option_map (λ (value : AskedValue). value.bits) (slice_get s.asked (asked_before format.fields i))

-- the value is one of the uncompressed side
abbrev pub asked_side : Setting → Format → ℕ → Field → Side → Option (List Bool)
asked_side s format i d Uncompressed = if d.declared.asked then asked_value s format i else None
asked_side s format i d Compressed = None

-- the bits at its place, on the side that is asked for
abbrev pub placed_side : Setting → Format → FormatSizes → ℕ → Side → Option (List Bool)
placed_side s format sizes i side = if same_side side s.side then held (order_of format s.side) (length_of s format sizes) s.bits i else None

-- What is told first of that side of the field i: no bits, where its method leaves it empty; else the value that is asked for; else the bits at its place.
abbrev pub first_told : Setting → Format → FormatSizes → ℕ → Field → Side → Option (List Bool)
first_told s format sizes i d side = if leaves_empty d.encoding side then Some [] else option_or (asked_side s format i d side) (placed_side s format sizes i side)

-- a library method that covers no bits, where each of its arguments has one value
abbrev pub plain_library : Bounding → Library → Option lib.Method
plain_library r l = if is_crc l then None else method_in r [] l

abbrev pub plain_method : Bounding → Encoding → Option lib.Method
plain_method r (encoding.Library l) = plain_library r l
plain_method r encoding.Bare = None
plain_method r (encoding.Call k arguments) = None

-- the only bits that such a method relates to those on that side, where there are such
abbrev pub IsAcross : Option lib.Method → Option (List Bool) → Side → List Bool → Option (List Bool) → Type 0
IsAcross None ref side own o = o ≡ None
IsAcross (Some m) ref side own o = IsOnly (Related m ref side own) o

-- what is told first of a side; else what the method relates to what is told first of the other one, which is the given side; else nothing
abbrev pub IsFound : Option lib.Method → Option (List Bool) → Side → Option (List Bool) → Option (List Bool) → Option (List Bool) → Type 0
IsFound m ref side (Some own) other o = o ≡ Some own
IsFound m ref side None (Some other) o = IsAcross m ref side other o
IsFound m ref side None None o = o ≡ None

-- this is what is seen of that side of the field i
abbrev pub IsSeenOn : Setting → Format → FormatSizes → ℕ → Field → Side → Option (List Bool) → Type 0
IsSeenOn s format sizes i d side o =
    IsFound (plain_method (bounding_of (base_ranges s sizes)) d.encoding) (reference_in s d) (opposite side) (first_told s format sizes i d side) (first_told s format sizes i d (opposite side)) o

-- these are what is seen of the fields
pub record AreInFull (s : Setting) (format : Format) (sizes : FormatSizes) (sights : List ObservedSides) : Type 0 where
  pub count : length sights ≡ length format.fields
  pub each : (i : ℕ) (d : Field) (sight : ObservedSides) → slice_get format.fields i ≡ Some d → slice_get sights i ≡ Some sight → (side : Side) → IsSeenOn s format sizes i d side (seen_side sight side)

-- bits that can be held: fewer than 2 ^ 31
abbrev pub holdable : List Bool → Option (List Bool)
holdable bits = if nat_le (length bits) 2147483647 then Some bits else None

-- what is seen of that side of the whole: the sides of its fields joined, where each is seen
abbrev pub whole_seen : List ObservedSides → Side → Format → Option (List Bool)
whole_seen sights side format = option_and_then holdable (joined sights side (order_of format side))

-- all that is seen of the format n
pub record IsFullView (s : Setting) (n : ℕ) (format : Format) (sizes : FormatSizes) (seen : Observed) : Type 0 where
  pub format_is : format_at s.profile.methods s.method n ≡ Some format
  pub sizes_are : sizes_at s.profile.sizes s.method n ≡ Some sizes
  pub fields : AreInFull s format sizes seen.fields
  pub whole : (side : Side) → seen_side seen.whole side ≡ whole_seen seen.fields side format
