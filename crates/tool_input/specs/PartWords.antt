-- The words in a part.
use Rattle.std.specs.Prelude.{◌==◌, ℕ, List, [], ◌∷◌, Option, None, Some, if◌then◌else◌, length, filter, not}
use Rattle.std.specs.Str.{is_utf8}
use Rattle.std.specs.Str.Lines.{lines}
use Rattle.std.specs.List.{slice_split}

-- the words of the one line
abbrev pub words_of_line : List (List ℕ) → Option (List (List ℕ))
words_of_line [] = None
words_of_line (line ∷ []) = Some (slice_split (λ octet. octet == 32) line)
words_of_line (line ∷ other ∷ more) = None

-- the words in a part: its one line that isn't empty, cut at each blank
abbrev pub words_in : List ℕ → Option (List (List ℕ))
words_in text = if is_utf8 text
    then words_of_line (filter (λ line. not (length line == 0)) (lines text)) else None
