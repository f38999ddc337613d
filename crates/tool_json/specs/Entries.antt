-- The last context, which stands behind a heading, as an object of JSON (docs/FORMATS.md, JSON lines; Texts of bits).
use Rattle.std.specs.Prelude.{ℕ, ◌==◌, ◌||◌, if◌then◌else◌, Bool, List, [], ◌∷◌, ◌++◌, codes, decimal, flat_map, length, Option, Some, None, option_map}
use Rattle.std.specs.List.{list_any}
use Rattle.std.specs.Str.{bytes_eq}
use Rattle.json.specs.Token.{Token}
use Rattle.tool_json.specs.Messages.{cut, number_of}
use Rattle.tool_json.specs.MessageObjects.{of_kind}
use Rattle.tool_names.specs.Objects as json

abbrev pub is_heading : List ℕ → Bool
is_heading line = bytes_eq line (codes "=== context")

abbrev pub has_heading : List (List ℕ) → Bool
has_heading lines = list_any is_heading lines

-- the lines before the first heading, all where there is none
abbrev pub before_heading : List (List ℕ) → List (List ℕ)
before_heading [] = []
before_heading (line ∷ lines) = if is_heading line then [] else line ∷ before_heading lines

-- the lines after it
abbrev pub after_heading : List (List ℕ) → List (List ℕ)
after_heading [] = []
after_heading (line ∷ lines) = if is_heading line then lines else after_heading lines

-- what a line adds to those before a heading and to those after one, by whether one has come
abbrev pub before_on : Bool → List ℕ → List (List ℕ)
before_on found line = if found || is_heading line then [] else line ∷ []

abbrev pub after_on : Bool → List ℕ → List (List ℕ)
after_on found line = if found then line ∷ [] else []

-- ---- an entry: a path, how many bits, and their digits

abbrev pub digits_by : List ℕ → Option (List ℕ × List ℕ) → Option (List ℕ × ℕ × List ℕ)
digits_by path None = None
digits_by path (Some p) = option_map (λ count. (path, count, p.1)) (number_of p.0)

abbrev pub bits_by : Option (List ℕ × List ℕ) → Option (List ℕ × ℕ × List ℕ)
bits_by None = None
bits_by (Some p) = digits_by p.0 (cut 58 p.1)

-- `PATH COUNT:DIGITS`
abbrev pub entry_of : List ℕ → Option (List ℕ × ℕ × List ℕ)
entry_of line = bits_by (cut 32 line)

-- the line again
abbrev pub entry_line : List ℕ → ℕ → List ℕ → List ℕ
entry_line path count digits = path ++ codes " " ++ decimal count ++ codes ":" ++ digits

-- ---- the members of a context's object

abbrev pub bits_tokens : List ℕ → ℕ → List ℕ → List Token
bits_tokens path count digits = json.opened ++ json.text (codes "path") path ++ json.counted (codes "bits") count digits ++ json.closed

-- a line that is no entry, of which a context has none, is kept as a path without bits
abbrev pub unread_tokens : List ℕ → List Token
unread_tokens line = json.opened ++ json.text (codes "path") line ++ json.null_member (codes "bits") ++ json.closed

abbrev pub tokens_by : List ℕ → Option (List ℕ × ℕ × List ℕ) → List Token
tokens_by line (Some e) = bits_tokens e.0 e.1 e.2
tokens_by line None = unread_tokens line

abbrev pub entry_tokens : List ℕ → List Token
entry_tokens line = if length line == 0 then [] else tokens_by line (entry_of line)

-- the object of a context by its lines
abbrev pub context : List (List ℕ) → List Token
context lines = of_kind (codes "context") ++ json.array_opened (codes "entries") ++ flat_map entry_tokens lines ++ json.array_closed
