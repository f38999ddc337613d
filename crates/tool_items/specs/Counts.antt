-- What is counted of the packets of some fillings: how many there are, and how many bits stand in them, in all, format by format and field by field.
use Rattle.std.specs.Prelude.{ℕ, ◌+◌, Bool, List, [], length, map, filter, get_or, nat_eq, slice_get, Option, option_map, option_and_then, unwrap_or}
use Rattle.std.specs.List.{filter_map, sum_by}
use Rattle.sem_filling.specs.declared.filling.Filling.{Filling, out-Filling}
use Rattle.sem_filling.specs.Fillings.{inner_at, level, listing_of, packed}
use Rattle.tool_items.specs.declared.counts.Tally.{Tally}

-- the compressed side of the field i, which is what it gives to the packed bits where it is listed
abbrev pub side : Filling → ℕ → List Bool
side f i = unwrap_or (option_map (λ s. s.compressed) (slice_get (level f) i)) []

abbrev pub side_length : Filling → ℕ → ℕ
side_length f i = length (side f i)

-- how many packed bits each listed field has, in the listing's order
abbrev pub field_lengths : Filling → List ℕ
field_lengths f = map (side_length f) (listing_of f)

-- how many the listed field at a place of the listing has; 0 past the listing
abbrev pub bits_at : ℕ → Filling → ℕ
bits_at p f = get_or (field_lengths f) p 0

-- the filling inside the listed field at a place, if it has one
abbrev pub inner_in : ℕ → Filling → Option Filling
inner_in p f = option_and_then (inner_at f) (slice_get (listing_of f) p)

-- ---- of some fillings

-- those that have the format n
abbrev pub of_format : ℕ → List Filling → List Filling
of_format n fs = filter (λ f. nat_eq (out-Filling f).format n) fs

-- those inside the listed field at a place, where the format is n
abbrev pub insides : ℕ → ℕ → List Filling → List Filling
insides n p fs = filter_map (inner_in p) (of_format n fs)

-- how many fillings there are, and their packed bits
abbrev pub tally : List Filling → Tally
tally fs = record { items = length fs; bits = sum_by (λ f. length (packed f)) fs }

-- the same of those with the format n; and of these with the bits of one listed field
abbrev pub tally_format : ℕ → List Filling → Tally
tally_format n fs = tally (of_format n fs)

abbrev pub bits_of_field : ℕ → ℕ → List Filling → ℕ
bits_of_field n p fs = sum_by (bits_at p) (of_format n fs)

abbrev pub tally_field : ℕ → ℕ → List Filling → Tally
tally_field n p fs = record { items = length (of_format n fs); bits = bits_of_field n p fs }

-- a tally with one filling more
abbrev pub one_more : Filling → Tally → Tally
one_more f t = record { items = t.items + 1; bits = t.bits + length (packed f) }
