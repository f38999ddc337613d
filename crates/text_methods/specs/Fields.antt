-- The fields of a format with their encodings (docs/NOTATION.md).
use Rattle.std.specs.Prelude.{ℕ, Bool, List, [], ◌∷◌, Option, get_or, drop, slice_get, unwrap_or, position, is_some}
use Rattle.std.specs.Option.{option_map, option_and_then}
use Rattle.std.specs.Str.{bytes_eq}
use Rattle.text_tree.specs.declared.tree.Section.{Section}
use Rattle.text_tree.specs.declared.tree.SectionKind.{SectionKind}
use Rattle.text_tree.specs.declared.tree.SectionKind.TheVariants as kinds
use Rattle.sem_profile.specs.declared.profile.Encoding.{Encoding}
use Rattle.sem_profile.specs.declared.profile.Encoding.TheVariants as encoding
use Rattle.sem_profile.specs.declared.profile.Declared.{Declared}
use Rattle.sem_profile.specs.declared.profile.Field.{Field}
use Rattle.sem_profile.specs.declared.profile.Part.{Part}
use Rattle.sem_profile.specs.declared.profile.Part.TheVariants as parts
use Rattle.sem_profile.specs.Words.{word}
use Rattle.text_sections.specs.declared.mention.Mention.{Mention}
use Rattle.text_methods.specs.declared.drafts.Setting.{Setting}

abbrev pub part_of : SectionKind → Part
part_of kinds.Uncompressed = parts.Header
part_of kinds.Control = parts.Control
part_of _ = parts.Local

-- which list declares a field: its section's
abbrev pub part : List Section → Mention → Part
part sections m = unwrap_or (option_map (λ s. part_of s.kind) (slice_get sections m.section)) parts.Local

-- one of the names is this one
abbrev pub is_one_of : List (List ℕ) → List ℕ → Bool
is_one_of names name = is_some (position (bytes_eq name) names)

-- the value beside the name
abbrev pub initial_of : List (List ℕ) → List (List Bool) → List ℕ → Option (List Bool)
initial_of names values name = option_and_then (slice_get values) (position (bytes_eq name) names)

abbrev pub declared : Setting → Mention → Declared
declared x m =
    let name = word x.text.now m.name in
    record { name = name; part = part x.sections.now m; asked = is_one_of x.asked.now name }

-- the field of a mention, with its encoding
abbrev pub field : Setting → Mention → Encoding → Field
field x m e = record { declared = declared x m; encoding = e; initial = initial_of x.initial_names.now x.initial_values.now (word x.text.now m.name) }

-- fields with encodings, the first with the first; one that is past the encodings has none
abbrev pub joined : Setting → List Mention → List Encoding → List Field
joined x [] es = []
joined x (m ∷ ms) es = field x m (get_or es 0 encoding.Bare) ∷ joined x ms (drop 1 es)
