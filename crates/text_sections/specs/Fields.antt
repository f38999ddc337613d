-- The fields of a format, in order, and what each is encoded by.
use Rattle.std.specs.Prelude.{◌≡◌, ◌++◌, ℕ, zero, suc, List, [], ◌∷◌, Option, Some, None, length, position, unwrap_or, get_or, drop, slice_get, option_and_then, if◌then◌else◌}
use Rattle.std.specs.Option.{option_or}
use Rattle.std.specs.Str.{bytes_eq}
use Rattle.text_tree.specs.declared.tree.Encoding.{Encoding}
use Rattle.text_tree.specs.declared.tree.Item.{Item}
use Rattle.text_tree.specs.declared.tree.Item.TheVariants as items
use Rattle.text_tree.specs.declared.tree.Section.{Section}
use Rattle.sem_profile.specs.Words.{word}
use Rattle.text_sections.specs.declared.mention.Mention.{Mention}
use Rattle.text_sections.specs.declared.mention.Group.{Group}
use Rattle.text_sections.specs.declared.mention.Group.TheVariants as groups
use Rattle.text_sections.specs.Mentions.{mentions_in, mention_of, first_of, encoded}

-- the mentions in UNCOMPRESSED, in CONTROL and in the format
abbrev pub in_field_order : List ℕ → List Section → List Mention → List Mention
in_field_order text sections own = (mentions_in text groups.Header 0 sections ++ mentions_in text groups.Control 0 sections) ++ own

-- the place of the field of this name, or how many there are
abbrev pub place : List ℕ → List (List ℕ) → Mention → ℕ
place text names m = unwrap_or (position (bytes_eq (word text m.name)) names) (length names)

-- the one encoding of a field
abbrev pub encoding : List ℕ → (List ℕ → Option Mention) → (List ℕ → Option Mention) → (List ℕ → Option Mention) → Mention → Option Mention
encoding text base own default m = option_or (option_or (base (word text m.name)) (own (word text m.name))) (default (word text m.name))

-- for fields and the encodings that their format gives them, side by side
abbrev pub encodings_by : List ℕ → (List ℕ → Option Mention) → (List ℕ → Option Mention) → List Mention → List (Option Mention) → List (Option Mention)
encodings_by text base default [] os = []
encodings_by text base default (f ∷ fs) os = encoding text base (λ name. get_or os 0 None) default f ∷ encodings_by text base default fs (drop 1 os)

-- the encoding that a format with these mentions gives a field
abbrev pub own_encoding : List ℕ → List Mention → Mention → Option Mention
own_encoding text own f = first_of text (encoded own) (word text f.name)

-- a mention at a place where none is
abbrev pub with_first : List (Option Mention) → ℕ → Mention → List (Option Mention)
with_first [] k m = []
with_first (o ∷ os) zero m = option_or o (Some m) ∷ os
with_first (o ∷ os) (suc k) m = o ∷ with_first os k m

-- one mention more, in the order of the text
abbrev pub with_own : List ℕ → List (List ℕ) → List (Option Mention) → Mention → List (Option Mention)
with_own text names found m = if m.is_encoded then with_first found (place text names m) m else found

abbrev pub encoding_of : Item → Option Encoding
encoding_of (items.Bound b) = Some b.encoding
encoding_of _ = None

-- the encoding of the statement at a mention's place
abbrev pub encoding_at : List Section → Mention → Option Encoding
encoding_at sections m = option_and_then (λ s. option_and_then encoding_of (slice_get s.items m.item)) (slice_get sections m.section)

-- the statement at the mention's place is the one that it tells of
pub record PointsAt (text : List ℕ) (sections : List Section) (m : Mention) : Type 0 where
  pub section : Section
  pub item : Item
  pub section_at : slice_get sections m.section ≡ Some section
  pub item_at : slice_get section.items m.item ≡ Some item
  pub tells : mention_of text m.section m.item item ≡ Some m

abbrev pub MentionsPoint : Type 0
MentionsPoint = (text : List ℕ) (group : Group) (sections : List Section) (k : ℕ) (m : Mention) → slice_get (mentions_in text group 0 sections) k ≡ Some m → PointsAt text sections m
