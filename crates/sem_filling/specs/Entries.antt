-- What a filling leaves in the context: an entry for each header and control field, inner ones too.
use Rattle.std.specs.Prelude.{ℕ, Bool, List, [], ◌∷◌, ◌++◌, Option, Some, None}
use Rattle.std.specs.List.{flat_map}
use Rattle.sem_profile.specs.declared.profile.Part.{Part}
use Rattle.sem_profile.specs.declared.profile.Part.TheVariants.{Header, Control, Local}
use Rattle.sem_context.specs.Entries.{Entries, IsFront, overridden}
use Rattle.sem_filling.specs.declared.filling.Filling.{Filling}
use Rattle.sem_filling.specs.declared.filling.FilledField.TheOpen.{FilledField-F, Filling-F}
use Rattle.sem_filling.specs.declared.filling.FilledField.TheFolds.{fold-Filling}

-- the names of fields from the top method down, joined by dots, in octets; empty at the top
abbrev pub Path : Type 0
Path = List ℕ

-- the path of a field of this name below a path
abbrev pub below : Path → List ℕ → Path
below [] name = name
below (x ∷ xs) name = (x ∷ xs) ++ (46 ∷ name)

-- a path that is a field's name, unless it stands below another
abbrev pub name_or_path : List ℕ → Option Path → Path
name_or_path name None = name
name_or_path name (Some path) = path

-- a field's own entry; local fields have none
abbrev pub own_entry : Part → Path → List Bool → Entries
own_entry Header path bits = (path, bits) ∷ []
own_entry Control path bits = (path, bits) ∷ []
own_entry Local path bits = []

abbrev pub inner_entries : Option (Path → Entries) → Path → Entries
inner_entries None path = []
inner_entries (Some entries) path = entries path

-- of one field: its own entry first, and then those of its filling
abbrev pub field_entries : FilledField-F (Path → Entries) (Path → Entries) → Path → Entries
field_entries g path =
    let here = below path g.declared.name in
    own_entry g.declared.part here g.uncompressed ++ inner_entries g.inner here

abbrev pub level_entries : Filling-F (Path → Entries) (Path → Entries) → Path → Entries
level_entries f path = flat_map (λ entries. entries path) f.fields

-- those of a filling below a path, in field order
abbrev pub entries_below : Filling → Path → Entries
entries_below = fold-Filling (Path → Entries) (Path → Entries) field_entries level_entries

abbrev pub entries : Filling → Entries
entries f = entries_below f []

-- bits that were those of the first entries of a context, with more behind them, are so again
abbrev pub GoesOn : List Path → List (List Bool) → List (List Bool) → Entries → Type 0
GoesOn paths old new es = (before : Entries) → IsFront paths old before → IsFront paths new (before ++ es)

-- the context after a filling: of two entries for one path the later counts, and others stay
abbrev pub next : Entries → Filling → Entries
next ctx f = overridden ctx (entries f)
