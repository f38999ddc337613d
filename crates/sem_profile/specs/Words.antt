-- Names as parts of the text.
use Rattle.std.specs.Prelude.{ℕ, Bool, List, [], ◌∷◌, ◌++◌, Option, Some, None, not, if◌then◌else◌}
use Rattle.std.specs.List.{slice_range, list_any}
use Rattle.std.specs.Str.{bytes_eq}
use Rattle.text_source.specs.declared.span.Span.{Span}
-- a letter, then letters, digits and underscores
pub use Rattle.text_source.specs.Names.{is_name}

-- the part of the text
abbrev pub word : List ℕ → Span → List ℕ
word text span = slice_range text span.from span.to

-- that part is a name
abbrev pub is_named : List ℕ → Span → Bool
is_named text span = is_name (word text span)

-- the text, where it is a name
abbrev pub as_name : List ℕ → Option (List ℕ)
as_name text = if is_name text then Some text else None

-- none of the names is this one
abbrev pub is_new : List (List ℕ) → List ℕ → Bool
is_new names name = not (list_any (bytes_eq name) names)

-- the names with this one put last, unless it is there
abbrev pub with_word : List (List ℕ) → List ℕ → List (List ℕ)
with_word names name = if list_any (bytes_eq name) names then names else names ++ name ∷ []
