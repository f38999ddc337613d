-- Sides that are joined in the order of a list of fields (docs/DEFINITIONS.md, What a walk knows of a level).
use Rattle.std.specs.Prelude.{ℕ, suc, nat_le, Bool, List, [], ◌∷◌, length, Option, Some, None, if◌then◌else◌}
use Rattle.std.specs.List.{flat_map, list_all}
use Rattle.sem_bits.specs.Number.{num}
use Rattle.sem_expr.specs.declared.expr.Side.{Side}
use Rattle.sem_profile.specs.declared.profile.Field.{Field}
use Rattle.sem_filling.specs.Fillings.{is_header}
use Rattle.cert_rules.specs.declared.slots.Slot.{Slot}
use Rattle.cert_rules.specs.Slots.{has_length, has_bits, learnt_at, bits_of}

-- the indices of the header fields, from the index n on
abbrev pub header_places : ℕ → List Field → List ℕ
header_places n [] = []
header_places n (d ∷ ds) = if is_header d.declared.part then n ∷ header_places (suc n) ds else header_places (suc n) ds

-- a side of each of the fields, joined; unknown bits are zeros, unknown lengths 0
abbrev pub joined_bits : List Slot → Side → List ℕ → List Bool
joined_bits slots side fields = flat_map (λ i. bits_of (learnt_at slots i side)) fields

-- the length of each is known; so are the bits of each
abbrev pub are_measured : List Slot → Side → List ℕ → Bool
are_measured slots side fields = list_all (λ i. has_length (learnt_at slots i side)) fields

abbrev pub are_whole : List Slot → Side → List ℕ → Bool
are_whole slots side fields = list_all (λ i. has_bits (learnt_at slots i side)) fields

-- how many bits they are, where the length of each is known
abbrev pub joined_length : List Slot → Side → List ℕ → Option ℕ
joined_length slots side fields = if are_measured slots side fields then Some (length (joined_bits slots side fields)) else None

-- the number that bits spell, up to 64 of them
abbrev pub narrow : List Bool → Option ℕ
narrow bits = if nat_le (length bits) 64 then Some (num bits) else None

-- that of the joined bits, where all are known
abbrev pub joined_value : List Slot → Side → List ℕ → Option ℕ
joined_value slots side fields = if are_whole slots side fields then narrow (joined_bits slots side fields) else None

-- the bits, where all are known
abbrev pub joined_whole : List Slot → Side → List ℕ → Option (List Bool)
joined_whole slots side fields = if are_whole slots side fields then Some (joined_bits slots side fields) else None
