-- What a bundle's parts are.
use Rattle.std.specs.Prelude.{◌≡◌, ◌≢◌, ◌-◌, ◌==◌, ◌&&◌, ◌||◌, ℕ, Bool, true, false, List, [], ◌∷◌, ◌++◌, Option, None, Some, if◌then◌else◌, length, take, drop, codes, nat_eq, nat_le, nat_lt, slice_index, option_map}
use Rattle.std.specs.Char.{encode_utf8, is_control}
use Rattle.std.specs.Fmt.{digits}
use Rattle.std.specs.List.{AllByRecursion, flat_map, starts_with, ends_with}
use Rattle.std.specs.Str.{bytes_eq, chars, is_utf8}
use Rattle.tool_input.specs.declared.bundle.Parts.{Parts}
use Rattle.tool_input.specs.declared.bundle.BadPart.{BadPart}
use Rattle.tool_input.specs.declared.bundle.BadPart.TheVariants.{Front, Named}

-- the lines, with one more octet at the front of the first
abbrev pub onto_first_line : ℕ → List (List ℕ) → List (List ℕ)
onto_first_line octet [] = (octet ∷ []) ∷ []
onto_first_line octet (line ∷ lines) = (octet ∷ line) ∷ lines

-- the lines of a text, each with the line feed that ends it; the last may have none
abbrev pub full_lines : List ℕ → List (List ℕ)
full_lines [] = []
full_lines (octet ∷ text) =
    if octet == 10 then (10 ∷ []) ∷ full_lines text else onto_first_line octet (full_lines text)

-- the line begins a part
abbrev pub is_heading : List ℕ → Bool
is_heading line = starts_with nat_eq line (codes "=== ")

-- a text less the line feed that ends it, and less a carriage return right before that
abbrev pub without_end : List ℕ → List ℕ
without_end text =
    if ends_with nat_eq text (13 ∷ 10 ∷ []) then take (length text - 2) text
    else (if ends_with nat_eq text (10 ∷ []) then take (length text - 1) text else text)

-- the name in a heading
abbrev pub name_in : List ℕ → List ℕ
name_in heading = without_end (drop 4 heading)

-- the text of the lines up to the next heading
abbrev pub text_before : List (List ℕ) → List ℕ
text_before [] = []
text_before (line ∷ lines) = if is_heading line then [] else line ++ text_before lines

pub record Part : Type 0 where
  pub name : List ℕ
  pub text : List ℕ

abbrev pub named : List ℕ → List ℕ → Part
named name text = record { name = name; text = text }

-- each heading begins a part, whose text goes on up to the next
abbrev pub parts_in : List (List ℕ) → List Part
parts_in [] = []
parts_in (line ∷ lines) =
    if is_heading line then named (name_in line) (text_before lines) ∷ parts_in lines
    else parts_in lines

-- the parts of a bundle in order, whatever their names
abbrev pub parts_of : List ℕ → List Part
parts_of input = parts_in (full_lines input)

-- what stands before the first part
abbrev pub front_of : List ℕ → List ℕ
front_of input = text_before (full_lines input)

abbrev pub is_known : List ℕ → Bool
is_known name = bytes_eq name (codes "words") || bytes_eq name (codes "profile") || bytes_eq name (codes "certificate")
    || bytes_eq name (codes "context") || bytes_eq name (codes "items") || bytes_eq name (codes "packets")
    || bytes_eq name (codes "events") || bytes_eq name (codes "octets")

-- the text of the first part of that name
abbrev pub text_named : List ℕ → List Part → Option (List ℕ)
text_named name [] = None
text_named name (part ∷ parts) =
    if bytes_eq part.name name then Some part.text else text_named name parts

-- the part may stand after these: its name is known, and none of theirs
pub record MayFollow (before : List Part) (part : Part) : Type 0 where
  pub known : is_known part.name ≡ true
  pub new : text_named part.name before ≡ None

-- each part may stand after those before it
pub data AreGood : List Part → Type 0 where
  none : AreGood []
  one_more : (parts before : List Part) (part : Part) → AreGood before → MayFollow before part
      → parts ≡ before ++ part ∷ [] → AreGood parts

-- nothing stands before the first part, and the names are known, each standing once
pub record IsBundle (input : List ℕ) : Type 0 where
  pub front : front_of input ≡ []
  pub parts : AreGood (parts_of input)

-- the parts at hand are those of these names, and a part that is absent has no text
pub record HoldsParts (held : Parts) (parts : List Part) : Type 0 where
  pub words : option_map (λ text. text.now) held.words ≡ text_named (codes "words") parts
  pub profile : option_map (λ text. text.now) held.profile ≡ text_named (codes "profile") parts
  pub certificate : option_map (λ text. text.now) held.certificate ≡ text_named (codes "certificate") parts
  pub context : option_map (λ text. text.now) held.context ≡ text_named (codes "context") parts
  pub items : option_map (λ text. text.now) held.items ≡ text_named (codes "items") parts
  pub packets : option_map (λ text. text.now) held.packets ≡ text_named (codes "packets") parts
  pub events : option_map (λ text. text.now) held.events ≡ text_named (codes "events") parts
  pub octets : option_map (λ text. text.now) held.octets ≡ text_named (codes "octets") parts

-- the part is the first that may not stand after those before it
pub record IsFirstBad (parts : List Part) (blamed : List ℕ) : Type 0 where
  pub before : List Part
  pub bad : Part
  pub after : List Part
  pub split : parts ≡ before ++ bad ∷ after
  pub good : AreGood before
  pub refused : ¬ (MayFollow before bad)
  pub name : blamed ≡ bad.name

-- what makes the input no bundle, first in its order
abbrev pub BlamesPart : List ℕ → BadPart → Type 0
BlamesPart input Front = front_of input ≢ []
BlamesPart input (Named name) = (front_of input ≡ []) × IsFirstBad (parts_of input) name.now

-- a part as a bundle spells it
abbrev pub spelled : Part → List ℕ
spelled part = codes "=== " ++ part.name ++ 10 ∷ part.text

-- the text ends its last line
abbrev pub IsWhole : List ℕ → Type 0
IsWhole [] = Unit {0}
IsWhole (octet ∷ []) = octet ≡ 10
IsWhole (octet ∷ next ∷ text) = IsWhole (next ∷ text)

-- the name fits in a heading, and the text is whole lines that are no headings
pub record IsSpellable (part : Part) : Type 0 where
  pub name : AllByRecursion (λ octet. octet ≢ 10) part.name
  pub name_end : slice_index part.name (length part.name - 1) ≢ 13
  pub whole : IsWhole part.text
  pub plain : AllByRecursion (λ line. is_heading line ≡ false) (full_lines part.text)

-- what is spelled from parts has those parts, and nothing before them
abbrev pub HasSpelled : List Part → Type 0
HasSpelled parts = (parts_of (flat_map spelled parts) ≡ parts) × (front_of (flat_map spelled parts) ≡ [])

-- `\u{`, the character's number in lower-case hexadecimal digits, and `}`
abbrev pub escaped : ℕ → List ℕ
escaped c = 92 ∷ codes "u{" ++ digits 16 false c ++ codes "}"

-- a number from the first to the last
abbrev pub is_within : ℕ → ℕ → ℕ → Bool
is_within first last c = nat_le first c && nat_le c last

-- characters that hide themselves or order what stands beside them: U+00AD, U+061C, U+200B to U+200F, U+2028 to U+202E, U+2060 to U+206F, U+FEFF
abbrev pub is_hidden : ℕ → Bool
is_hidden c = nat_eq c 173 || (nat_eq c 1564 || (is_within 8203 8207 c || (is_within 8232 8238 c || (is_within 8288 8303 c || nat_eq c 65279))))

-- a character that isn't seen as itself
abbrev pub is_unseen : ℕ → Bool
is_unseen c = is_control c || is_hidden c

-- a character in a line: itself, but one that isn't seen as itself is escaped
abbrev pub shown_character : ℕ → List ℕ
shown_character c = if is_unseen c then escaped c else encode_utf8 c

-- more characters than are shown
abbrev pub is_long : List ℕ → Bool
is_long text = nat_lt 80 (length (chars text))

-- a text in a line: its first 80 characters, and two dots where it has more
abbrev pub shown_text : List ℕ → List ℕ
shown_text text = flat_map shown_character (take 80 (chars text)) ++ (if is_long text then codes ".." else [])

-- a part's name in a line: itself where it is text
abbrev pub shown_name : BadPart → List ℕ
shown_name Front = codes "-"
shown_name (Named name) = if is_utf8 name.now then shown_text name.now else codes "-"
