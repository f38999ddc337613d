-- A filling, level by level: its header, its packed bits and its item.
use Rattle.std.specs.Prelude.{ℕ, ◌≤◌, ◌^◌, Bool, true, false, List, [], length, map, filter, slice_get, Option, option_map, option_and_then, unwrap_or}
use Rattle.std.specs.List.{flat_map}
use Rattle.sem_bits.specs.declared.bits.BitsError.{BitsError}
use Rattle.sem_bits.specs.declared.bits.BitsError.TheVariants.{Full, OutOfMemory}
use Rattle.sem_profile.specs.declared.profile.Part.{Part}
use Rattle.sem_profile.specs.declared.profile.Part.TheVariants.{Header, Control, Local}
use Rattle.sem_profile.specs.declared.profile.Declared.{Declared}
use Rattle.sem_filling.specs.declared.filling.Filling.{Filling, out-Filling}
use Rattle.sem_filling.specs.declared.filling.FilledField.{FilledField, out-FilledField}
use Rattle.sem_filling.specs.declared.filling.Item.{Item}
use Rattle.sem_filling.specs.declared.filling.AskedValue.{AskedValue}

-- a field with its two sides, without what fills the method that it calls
pub record Sides : Type 0 where
  pub declared : Declared
  pub uncompressed : List Bool
  pub compressed : List Bool

abbrev pub sides_of : FilledField → Sides
sides_of g = record { declared = (out-FilledField g).declared; uncompressed = (out-FilledField g).uncompressed; compressed = (out-FilledField g).compressed }

abbrev pub inner_of : FilledField → Option Filling
inner_of g = (out-FilledField g).inner

abbrev pub fields_of : Filling → List FilledField
fields_of f = (out-Filling f).fields

abbrev pub listing_of : Filling → List ℕ
listing_of f = (out-Filling f).listing

-- the fields of a filling at its own level
abbrev pub level : Filling → List Sides
level f = map sides_of (fields_of f)

abbrev pub is_header : Part → Bool
is_header Header = true
is_header Control = false
is_header Local = false

-- the uncompressed sides of the header fields, joined in field order
abbrev pub header_bits : List Sides → List Bool
header_bits fs = flat_map (λ s. s.uncompressed) (filter (λ s. is_header s.declared.part) fs)

-- the compressed sides of the listed fields, joined in the listing's order
abbrev pub packed_bits : List ℕ → List Sides → List Bool
packed_bits listing fs = flat_map (λ i. unwrap_or (option_map (λ s. s.compressed) (slice_get fs i)) []) listing

abbrev pub header : Filling → List Bool
header f = header_bits (level f)

abbrev pub packed : Filling → List Bool
packed f = packed_bits (listing_of f) (level f)

-- the asked fields with their uncompressed sides, in field order
abbrev pub asked_values : List Sides → List AskedValue
asked_values fs = map (λ s. record { name = s.declared.name; bits = s.uncompressed }) (filter (λ s. s.declared.asked) fs)

-- the value that a field has in a filling: its name with its uncompressed side
abbrev pub value_of : FilledField → AskedValue
value_of g = record { name = (sides_of g).declared.name; bits = (sides_of g).uncompressed }

-- the header and the values of the asked fields
abbrev pub item : Filling → Item
item f = record { header = header f; asked = asked_values (level f) }

-- the filling of the field at an index, if it has one
abbrev pub inner_at : Filling → ℕ → Option Filling
inner_at f i = option_and_then inner_of (slice_get (fields_of f) i)

-- bits could not be joined: they are above the limit, or memory ran out
abbrev pub FailsAbove : BitsError → List Bool → Type 0
FailsAbove Full bits = 2 ^ 31 ≤ length bits
FailsAbove OutOfMemory bits = Unit {0}
