-- What is told of the sides of a format's fields, and of the numbers in its expressions.
use Rattle.std.specs.Prelude.{◌≡◌, ℕ, ◌+◌, ℤ, pos, negsuc, nat_le, Bool, true, false, List, [], ◌∷◌, ◌++◌, length, filter, take, slice_get, Option, Some, None, option_map, option_and_then, Result, Ok, Err, IfSome, if◌then◌else◌}
use Rattle.std.specs.Option.{option_or}
use Rattle.std.specs.Ordering.{int_eq}
use Rattle.sem_bits.specs.Number.{num}
use Rattle.sem_context.specs.Entries.{bits_at}
use Rattle.sem_expr.specs.declared.expr.Expr.{Expr}
use Rattle.sem_expr.specs.declared.expr.Side.{Side}
use Rattle.sem_expr.specs.declared.expr.Side.TheVariants.{Uncompressed, Compressed}
use Rattle.sem_expr.specs.declared.expr.Subject.{Subject}
use Rattle.sem_expr.specs.declared.expr.Subject.TheVariants as subject
use Rattle.sem_expr.specs.declared.fault.RangeFault.{RangeFault}
use Rattle.sem_expr.specs.declared.interval.Interval.{Interval}
use Rattle.sem_expr.specs.declared.ranges.Intervals.{Intervals}
use Rattle.sem_expr.specs.declared.ranges.SideIntervals.{SideIntervals}
use Rattle.sem_expr.specs.declared.ranges.Ranges.{Ranges}
use Rattle.sem_expr.specs.Bounds.{bounding_of}
use Rattle.sem_expr.specs.Ranged.{Bounding, ranged}
use Rattle.sem_expr.specs.Rules.{from_to}
use Rattle.sem_library.specs.Methods as lib
use Rattle.sem_library.specs.Methods.{Lib, IsOnly}
use Rattle.sem_profile.specs.declared.profile.Encoding.{Encoding}
use Rattle.sem_profile.specs.declared.profile.Encoding.TheVariants as encoding
use Rattle.sem_profile.specs.declared.profile.Field.{Field}
use Rattle.sem_profile.specs.declared.profile.Format.{Format}
use Rattle.sem_profile.specs.declared.profile.FormatSizes.{FormatSizes}
use Rattle.sem_profile.specs.declared.profile.Library.{Library}
use Rattle.sem_profile.specs.declared.profile.Library.TheVariants as library
use Rattle.sem_profile.specs.Ranging.{format_ranges}
use Rattle.sem_filling.specs.declared.filling.AskedValue.{AskedValue}
use Rattle.sem_filling.specs.Entries.{below}
use Rattle.sem_filling.specs.Fits.{reference_of, two_values, crc_values}
use Rattle.sem_reasons.specs.Settings.{Setting}
use Rattle.sem_reasons.specs.Places.{Holds, length_in, only_length, order_of}
use Rattle.sem_reasons.specs.declared.sight.Observed.{Observed}
use Rattle.sem_reasons.specs.declared.sight.ObservedSides.{ObservedSides}

-- ---- a library method with arguments of which each has one value

abbrev pub only_in : Result Interval RangeFault → Option ℤ
only_in (Ok i) = if int_eq i.from i.to then Some i.from else None
only_in (Err e) = None

-- the one value that the expression can have, by its range
abbrev pub pinned : Bounding → Expr → Option ℤ
pinned r e = only_in (ranged r e)

abbrev pub all_pinned : Bounding → List Expr → Option (List ℤ)
all_pinned r [] = Some []
all_pinned r (e ∷ es) = option_and_then (λ v. option_map (λ vs. v ∷ vs) (all_pinned r es)) (pinned r e)

-- the covered bits are those of a crc
abbrev pub method_in : Bounding → List Bool → Library → Option lib.Method
method_in r covered (library.UncompressedValue len v) = two_values lib.uncompressed_value (pinned r len) (pinned r v)
method_in r covered (library.CompressedValue len v) = two_values lib.compressed_value (pinned r len) (pinned r v)
method_in r covered (library.Irregular len) = option_map lib.irregular (pinned r len)
method_in r covered library.Static = Some lib.static
method_in r covered (library.Lsb k offset) = two_values lib.lsb (pinned r k) (pinned r offset)
method_in r covered (library.Crc crc) = crc_values covered (all_pinned r (crc.bits ∷ crc.polynomial ∷ crc.initial ∷ crc.length ∷ []))

-- of both sides, where the one on that side is x and the other y
abbrev pub Related : lib.Method → Option (List Bool) → Side → List Bool → List Bool → Type 0
Related m ref Uncompressed x y = Lib m ref x y
Related m ref Compressed x y = Lib m ref y x

abbrev pub opposite : Side → Side
opposite Uncompressed = Compressed
opposite Compressed = Uncompressed

abbrev pub is_crc : Library → Bool
is_crc (library.Crc crc) = true
is_crc _ = false

-- ---- the sides of fields

abbrev pub reference_in : Setting → Field → Option (List Bool)
reference_in s d = reference_of d.declared.part (bits_at s.context) (below s.path d.declared.name) d.initial

-- the methods that leave that side empty
abbrev pub leaves_empty : Encoding → Side → Bool
leaves_empty (encoding.Library (library.UncompressedValue len v)) Compressed = true
leaves_empty (encoding.Library library.Static) Compressed = true
leaves_empty (encoding.Library (library.CompressedValue len v)) Uncompressed = true
leaves_empty (encoding.Library (library.Crc crc)) Uncompressed = true
leaves_empty _ side = false

-- the ranges of the format's numbers by its bounds and by those of the arguments
abbrev pub base_ranges : Setting → FormatSizes → Ranges
base_ranges s sizes = format_ranges sizes s.parameters

-- ---- lengths

abbrev pub as_length : Option ℤ → Option ℕ
as_length (Some (pos n)) = Some n
as_length (Some (negsuc n)) = None
as_length None = None

abbrev pub bits_length : Option (List Bool) → Option ℕ
bits_length (Some bits) = Some (length bits)
bits_length None = None

-- the length of that side of a field, where its method tells it by its arguments or the reference
abbrev pub library_length : Bounding → Option (List Bool) → Library → Side → Option ℕ
library_length r ref (library.UncompressedValue len v) Uncompressed = as_length (pinned r len)
library_length r ref (library.UncompressedValue len v) Compressed = None
library_length r ref (library.CompressedValue len v) Uncompressed = None
library_length r ref (library.CompressedValue len v) Compressed = as_length (pinned r len)
library_length r ref (library.Irregular len) side = as_length (pinned r len)
library_length r ref library.Static Uncompressed = bits_length ref
library_length r ref library.Static Compressed = None
library_length r ref (library.Lsb k offset) Uncompressed = bits_length ref
library_length r ref (library.Lsb k offset) Compressed = as_length (pinned r k)
library_length r ref (library.Crc crc) Uncompressed = None
library_length r ref (library.Crc crc) Compressed = as_length (pinned r crc.bits)

abbrev pub told_length : Bounding → Option (List Bool) → Encoding → Side → Option ℕ
told_length r ref (encoding.Library l) side = library_length r ref l side
told_length r ref encoding.Bare side = None
told_length r ref (encoding.Call k arguments) side = None

-- the length of a field on the side that is asked for, under ranges of the format's numbers: by its bounds, else by its method
abbrev pub length_at : Setting → Ranges → FormatSizes → ℕ → Field → Option ℕ
length_at s base sizes i d = option_or (only_length sizes.fields s.side i) (told_length (bounding_of base) (reference_in s d) d.encoding s.side)

-- of each field, from the one of number k on
abbrev pub lengths_from : Setting → Ranges → FormatSizes → ℕ → List Field → List (Option ℕ)
lengths_from s base sizes k [] = []
lengths_from s base sizes k (d ∷ ds) = length_at s base sizes k d ∷ lengths_from s base sizes (k + 1) ds

abbrev pub length_of : Setting → Format → FormatSizes → ℕ → Option ℕ
length_of s format sizes = length_in (lengths_from s (base_ranges s sizes) sizes 0 format.fields)

-- how many of the fields before the one of number i are asked
abbrev pub asked_before : List Field → ℕ → ℕ
asked_before fields i = length (filter (λ (d : Field). d.declared.asked) (take i fields))

-- What that side of the field i has in each filling that is asked for.
pub data Told (s : Setting) (format : Format) (sizes : FormatSizes) : ℕ → Side → List Bool → Type 0 where
  -- the bits at its place
  placed : {i : ℕ} {own : List Bool} → Holds (order_of format s.side) (length_of s format sizes) s.bits i own → Told s format sizes i s.side own
  -- none
  empty : {i : ℕ} {side : Side} (d : Field) → slice_get format.fields i ≡ Some d → leaves_empty d.encoding side ≡ true → Told s format sizes i side []
  -- the value that is asked for
  asked_for : {i : ℕ} (d : Field) (value : AskedValue) → slice_get format.fields i ≡ Some d → d.declared.asked ≡ true → slice_get s.asked (asked_before format.fields i) ≡ Some value → Told s format sizes i Uncompressed value.bits
  -- the only bits that its method relates to the other side
  across : {i : ℕ} {side : Side} {other : List Bool} (d : Field) (l : Library) (m : lib.Method) (own : List Bool) → Told s format sizes i side own → slice_get format.fields i ≡ Some d
      → d.encoding ≡ encoding.Library l → is_crc l ≡ false → method_in (bounding_of (base_ranges s sizes)) [] l ≡ Some m → IsOnly (Related m (reference_in s d) side own) (Some other)
      → Told s format sizes i (opposite side) other

-- what is seen of a field is told
pub record IsSeen (s : Setting) (format : Format) (sizes : FormatSizes) (i : ℕ) (sight : ObservedSides) : Type 0 where
  pub up : IfSome sight.uncompressed (Told s format sizes i Uncompressed)
  pub down : IfSome sight.compressed (Told s format sizes i Compressed)

-- so it is of each field
pub record AreSeen (s : Setting) (format : Format) (sizes : FormatSizes) (sights : List ObservedSides) : Type 0 where
  pub count : length sights ≡ length format.fields
  pub each : (i : ℕ) (sight : ObservedSides) → slice_get sights i ≡ Some sight → IsSeen s format sizes i sight

-- ---- the sides of subjects

abbrev pub seen_side : ObservedSides → Side → Option (List Bool)
seen_side x Uncompressed = x.uncompressed
seen_side x Compressed = x.compressed

abbrev pub seen_at : List ObservedSides → ℕ → Side → Option (List Bool)
seen_at sights i side = option_and_then (λ x. seen_side x side) (slice_get sights i)

-- the sides of these fields joined, where each is seen
abbrev pub joined : List ObservedSides → Side → List ℕ → Option (List Bool)
joined sights side [] = Some []
joined sights side (i ∷ is) = option_and_then (λ b. option_map (λ more. b ++ more) (joined sights side is)) (seen_at sights i side)

-- what is seen of a format: of each field, and of the whole what is seen of all its fields
pub record AreAllSeen (s : Setting) (format : Format) (sizes : FormatSizes) (seen : Observed) : Type 0 where
  pub fields : AreSeen s format sizes seen.fields
  pub up : IfSome seen.whole.uncompressed (λ b. joined seen.fields Uncompressed (order_of format Uncompressed) ≡ Some b)
  pub down : IfSome seen.whole.compressed (λ b. joined seen.fields Compressed (order_of format Compressed) ≡ Some b)

-- that side of a field or of the whole
abbrev pub seen_subject : Observed → Subject → Side → Option (List Bool)
seen_subject seen (subject.Field i) side = seen_at seen.fields i side
seen_subject seen subject.This side = seen_side seen.whole side

-- the bits that a crc covers are seen
abbrev pub Covers : Observed → Library → List Bool → Type 0
Covers seen (library.Crc crc) covered = seen_subject seen crc.subject crc.side ≡ Some covered
Covers seen _ covered = Unit {0}

-- ---- the numbers

abbrev pub only_number : ℕ → Interval
only_number n = from_to (pos n) (pos n)

-- those of bits that are seen
abbrev pub seen_numbers : Intervals → Option (List Bool) → Intervals
seen_numbers r None = r
seen_numbers r (Some bits) = record { value = if nat_le (length bits) 64 then only_number (num bits) else r.value; length = only_number (length bits) }

abbrev pub seen_intervals : SideIntervals → Option (List Bool) → Option (List Bool) → SideIntervals
seen_intervals r up down = record { uncompressed = seen_numbers r.uncompressed up; compressed = seen_numbers r.compressed down }

-- of each field, from the one of number k on, by the ranges that are there
abbrev pub fields_from : List ObservedSides → ℕ → List SideIntervals → List SideIntervals
fields_from sights k [] = []
fields_from sights k (r ∷ rs) = seen_intervals r (seen_at sights k Uncompressed) (seen_at sights k Compressed) ∷ fields_from sights (k + 1) rs

-- the ranges where that much is seen
abbrev pub ranges_seen : Observed → Ranges → Ranges
ranges_seen seen r = record {
  fields = fields_from seen.fields 0 r.fields;
  whole = seen_intervals r.whole seen.whole.uncompressed seen.whole.compressed;
  parameters = r.parameters;
}
