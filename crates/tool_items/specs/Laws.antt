-- What holds of what is counted.
use Rattle.std.specs.Prelude.{◌≡◌, ℕ, ◌<◌, List, length, slice_get, Option, Some, None}
use Rattle.std.specs.List.{range_with_len, sum, sum_by}
use Rattle.sem_filling.specs.declared.filling.Filling.{Filling, out-Filling}
use Rattle.sem_filling.specs.Fillings.{packed}
use Rattle.tool_items.specs.Counts.{bits_at, bits_of_field, field_lengths, inner_in, insides, of_format, tally, tally_format}

-- the packed bits of a filling are those of its listed fields, added up
abbrev pub FieldsAddUp : Type 0
FieldsAddUp = (f : Filling) → sum (field_lengths f) ≡ length (packed f)

-- the bits of some fillings are those of each format, added up
abbrev pub FormatsAddUp : Type 0
FormatsAddUp = (fs : List Filling) (count : ℕ) → ((i : ℕ) (f : Filling) → slice_get fs i ≡ Some f → (out-Filling f).format < count) → sum_by (λ n. (tally_format n fs).bits) (range_with_len 0 count) ≡ (tally fs).bits

abbrev pub bits_inside : Option Filling → ℕ
bits_inside None = 0
bits_inside (Some f) = length (packed f)

-- Where the packed bits of the filling inside are those of the field, as in all that fit, the bits of the fillings inside a listed field add up to those of the
-- field. So by the law above the formats inside a field do.
abbrev pub InsidesAddUp : Type 0
InsidesAddUp = (fs : List Filling) (n p : ℕ) → ((i : ℕ) (f : Filling) → slice_get (of_format n fs) i ≡ Some f → bits_at p f ≡ bits_inside (inner_in p f)) → (tally (insides n p fs)).bits ≡ bits_of_field n p fs
