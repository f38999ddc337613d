-- Statements on names, without their expressions.
use Rattle.std.specs.Prelude.{◌+◌, ◌||◌, ◌++◌, ℕ, Bool, true, false, List, [], ◌∷◌, Option, Some, None, codes, find, filter, fold, map, is_some, if◌then◌else◌}
use Rattle.std.specs.List.{cons_option}
use Rattle.std.specs.Str.{bytes_eq}
use Rattle.text_source.specs.declared.span.Span.{Span}
use Rattle.text_tree.specs.declared.tree.SectionKind.{SectionKind}
use Rattle.text_tree.specs.declared.tree.SectionKind.TheVariants as kinds
use Rattle.text_tree.specs.declared.tree.Encoding.{Encoding}
use Rattle.text_tree.specs.declared.tree.Encoding.TheVariants as encodings
use Rattle.text_tree.specs.declared.tree.Item.{Item}
use Rattle.text_tree.specs.declared.tree.Item.TheVariants as items
use Rattle.text_tree.specs.declared.tree.Section.{Section}
use Rattle.sem_profile.specs.Words.{word}
use Rattle.text_sections.specs.declared.mention.Mention.{Mention}
use Rattle.text_sections.specs.declared.mention.Group.{Group}
use Rattle.text_sections.specs.declared.mention.Group.TheVariants as groups

abbrev pub is_in : Group → SectionKind → Bool
is_in groups.Header kinds.Uncompressed = true
is_in groups.Control kinds.Control = true
is_in groups.Base kinds.Uncompressed = true
is_in groups.Base kinds.Control = true
is_in groups.Initial kinds.Initial = true
is_in groups.Default kinds.Default = true
is_in groups.Formats (kinds.Compressed name) = true
is_in groups.Unnamed (kinds.Compressed None) = true
is_in _ _ = false

-- the encoding is static or lsb
abbrev pub needs_context : List ℕ → Encoding → Bool
needs_context text (encodings.Bits at count number) = false
needs_context text (encodings.Call method arguments) = bytes_eq (word text method) (codes "static") || bytes_eq (word text method) (codes "lsb")

-- a statement on a name; ENFORCE is none
abbrev pub mention_of : List ℕ → ℕ → ℕ → Item → Option Mention
mention_of text section place (items.Field name bracket) = Some (record { name = name; section = section; item = place; is_encoded = false; needs_context = false })
mention_of text section place (items.Bound b) = Some (record { name = b.name; section = section; item = place; is_encoded = true; needs_context = needs_context text b.encoding })
mention_of text section place (items.Enforce at condition) = None

-- those of these items, of which the first has the place
abbrev pub mentions_from : List ℕ → ℕ → ℕ → List Item → List Mention
mentions_from text section place [] = []
mentions_from text section place (x ∷ xs) = cons_option (mention_of text section place x) (mentions_from text section (place + 1) xs)

abbrev pub mentions_of : List ℕ → ℕ → List Item → List Mention
mentions_of text section = mentions_from text section 0

-- those in the sections of a group, where the first section has the number
abbrev pub mentions_in : List ℕ → Group → ℕ → List Section → List Mention
mentions_in text group k [] = []
mentions_in text group k (s ∷ ss) = (if is_in group s.kind then mentions_of text k s.items else []) ++ mentions_in text group (k + 1) ss

-- a name that stands in a list of names alone
abbrev pub listed : Span → Mention
listed name = record { name = name; section = 0; item = 0; is_encoded = false; needs_context = false }

-- the first mention of the name
abbrev pub first_of : List ℕ → List Mention → List ℕ → Option Mention
first_of text mentions name = find (λ m. bytes_eq name (word text m.name)) mentions

-- those that give an encoding
abbrev pub encoded : List Mention → List Mention
encoded mentions = filter (λ m. m.is_encoded) mentions

-- each mention whose name no earlier one has
abbrev pub firsts : List ℕ → List Mention → List Mention
firsts text mentions = fold (λ kept m. if is_some (first_of text kept (word text m.name)) then kept else kept ++ m ∷ []) [] mentions

abbrev pub names_of : List ℕ → List Mention → List (List ℕ)
names_of text mentions = map (λ m. word text m.name) mentions
