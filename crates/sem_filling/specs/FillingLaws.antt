-- Laws of fillings and of what they leave in the context.
use Rattle.std.specs.Prelude.{◌≡◌, ℕ, [], ◌++◌, Option, Some, None, reverse}
use Rattle.std.specs.List.{flat_map}
use Rattle.std.specs.Option.{option_or}
use Rattle.sem_context.specs.Entries.{Entries, bits_at}
use Rattle.sem_filling.specs.declared.filling.Filling.{Filling, out-Filling}
use Rattle.sem_filling.specs.declared.filling.FilledField.{FilledField}
use Rattle.sem_filling.specs.Fillings.{sides_of, inner_of, inner_at, fields_of, listing_of, level}
use Rattle.sem_filling.specs.Entries.{Path, below, own_entry, entries_below, entries, next}

-- the entries of the filling inside a field, if there is one
abbrev pub entries_inside : Option Filling → Path → Entries
entries_inside None path = []
entries_inside (Some f) path = entries_below f path

-- a field's own entry, and then those of the filling inside it
abbrev pub entries_at : Path → FilledField → Entries
entries_at path g =
    let here = below path (sides_of g).declared.name in
    own_entry (sides_of g).declared.part here (sides_of g).uncompressed ++ entries_inside (inner_of g) here

-- the entries below a path are those of each field, in field order
abbrev pub EntriesByLevels : Type 0
EntriesByLevels = (f : Filling) (path : Path) → entries_below f path ≡ flat_map (entries_at path) (fields_of f)

-- Two fillings of one format index, one listing and the same sides, with the same filling inside each field, are one.
abbrev pub SameFillings : Type 0
SameFillings =
    (f g : Filling) → (out-Filling f).format ≡ (out-Filling g).format → listing_of f ≡ listing_of g → level f ≡ level g
    → ((i : ℕ) → inner_at f i ≡ inner_at g i) → f ≡ g

-- A path has the bits of the last entry for it, or else those that the context held.
abbrev pub NextByPaths : Type 0
NextByPaths =
    (ctx : Entries) (f : Filling) (path : Path)
    → bits_at (next ctx f) path ≡ option_or (bits_at (reverse (entries f)) path) (bits_at ctx path)
