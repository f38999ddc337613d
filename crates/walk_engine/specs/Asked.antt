-- The values that an item gives to the asked fields (docs/DEFINITIONS.md, Packing and unpacking).
use Rattle.std.specs.Prelude.{ℕ, ℤ, pos, negsuc, Bool, false, List, [], ◌∷◌, length, nat_eq, Option, Some, None, if◌then◌else◌}
use Rattle.std.specs.Option.{option_or}
use Rattle.std.specs.Str.{bytes_eq}
use Rattle.sem_filling.specs.declared.filling.AskedValue.{AskedValue}
use Rattle.sem_profile.specs.declared.asked.AskedField.{AskedField}

-- the value that the first entry of the name has
abbrev pub first_of : List ℕ → List AskedValue → Option (List Bool)
first_of name [] = None
first_of name (v ∷ vs) = if bytes_eq name v.name then Some v.bits else first_of name vs

-- the number is that count
abbrev pub is_count : ℤ → ℕ → Bool
is_count (pos n) count = nat_eq n count
is_count (negsuc n) count = false

-- there are bits, and as many as that
abbrev pub has_count : ℤ → Option (List Bool) → Bool
has_count n None = false
has_count n (Some bits) = is_count n (length bits)

-- the name of the first asked field whose first entry isn't of its length, or that has none
abbrev pub first_lacking : List AskedField → List AskedValue → Option (List ℕ)
first_lacking [] values = None
first_lacking (a ∷ fields) values = if has_count a.length (first_of a.name values) then first_lacking fields values else Some a.name

-- the name of the first value that isn't in the place of its field
abbrev pub first_odd : List AskedField → List AskedValue → Option (List ℕ)
first_odd fields [] = None
first_odd [] (v ∷ values) = Some v.name
first_odd (a ∷ fields) (v ∷ values) = if bytes_eq a.name v.name then first_odd fields values else Some v.name

-- the name to blame where the values aren't those of the asked fields, in their order and of their lengths
abbrev pub wrong_asked : List AskedField → List AskedValue → Option (List ℕ)
wrong_asked fields values = option_or (first_lacking fields values) (first_odd fields values)
