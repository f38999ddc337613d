-- Warnings that are meant: a comment at the end of a profile's line silences what is warned of there (docs/FORMATS.md, `lint`).
use Rattle.std.specs.Prelude.{◌≡◌, ℕ, ◌+◌, ◌-◌, ◌*◌, ◌<◌, ◌==◌, nat_eq, nat_lt, nat_le, ◌&&◌, ◌||◌, not, if◌then◌else◌, Bool, true, false, List, [], ◌∷◌, ◌++◌, codes, decimal, flat_map, length, map, slice_get, Option, unwrap_or}
use Rattle.std.specs.List.{enumerate_from, list_any, slice_split, ends_with}

-- the lines of a text, parted by line feeds
abbrev pub lines_of : List ℕ → List (List ℕ)
lines_of text = slice_split (λ octet. octet == 10) text

-- the line ends with the mark, or with that and a carriage return
abbrev pub is_meant : List ℕ → Bool
is_meant line = ends_with nat_eq line (codes "// lint: meant") || ends_with nat_eq line (codes "// lint: meant\r")

-- of each line of a text whether it does
abbrev pub meant_lines : List ℕ → List Bool
meant_lines octets = map is_meant (lines_of octets)

abbrev pub is_digit : ℕ → Bool
is_digit c = nat_le 48 c && nat_le c 57

-- the number that goes on with the first digits of a line, nine in all
unfoldable pub number_from : ℕ → List ℕ → ℕ
number_from n [] = n
number_from n (c ∷ cs) = if is_digit c && nat_lt n 100000000 then number_from (n * 10 + (c - 48)) cs else n

abbrev pub number_of : List ℕ → ℕ
number_of line = number_from 0 line

abbrev pub at : List Bool → ℕ → Bool
at marks i = unwrap_or (slice_get marks i) false

-- whether the line of that number, counted from 1, is marked
abbrev pub is_marked : List Bool → ℕ → Bool
is_marked meant n = if n == 0 then false else at meant (n - 1)

abbrev pub shown_line : List Bool → List ℕ → List ℕ
shown_line meant line = if nat_eq (length line) 0 || is_marked meant (number_of line) then [] else line ++ 10 ∷ []

-- one of these lines begins with the number
abbrev pub is_told : List (List ℕ) → ℕ → Bool
is_told lines n = list_any (λ line. nat_eq (number_of line) n) lines

-- Marks of which that of the line's number, counted from 1, is set, and no other changes.
pub record Notes (line : List ℕ) (old new : List Bool) : Type 0 where
  pub count : length new ≡ length old
  pub marks : (i : ℕ) → i < length old → at new i ≡ (at old i || nat_eq (number_of line) (i + 1))

abbrev pub unused_words : ℕ → List ℕ
unused_words n = decimal n ++ codes ":1: warning: nothing is warned of on this line, which says that it is meant\n"

-- for a marked line, counted from 0, of which nothing is warned
abbrev pub unused_line : Bool → ℕ → Bool → List ℕ
unused_line is_warned i is_meant = if not is_meant || is_warned then [] else unused_words (i + 1)

-- the same for all marked lines: where these lines begin with the numbers of those that are warned of, and where these marks say so
abbrev pub unused_lines : List (List ℕ) → List Bool → List ℕ
unused_lines lines meant = flat_map (λ p. unused_line (is_told lines (p.0 + 1)) p.0 p.1) (enumerate_from 0 meant)

abbrev pub unused_by : List Bool → List Bool → List ℕ
unused_by used meant = flat_map (λ p. unused_line (at used p.0) p.0 p.1) (enumerate_from 0 meant)

-- The lines of what is printed but for those of marked lines, and then a line for each marked one of which nothing is warned.
abbrev pub silenced : List ℕ → List ℕ → List ℕ
silenced octets text = flat_map (shown_line (meant_lines octets)) (lines_of text) ++ unused_lines (lines_of text) (meant_lines octets)
