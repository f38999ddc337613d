use Rattle.std.specs.Prelude.{◌≡◌, ℕ, ◌+◌, ◌==◌, List, length, take, filter, count_by}
use Rattle.std.specs.List.{enumerate_from}
use Rattle.std.specs.Str.{IsUtf8}
use Rattle.std.specs.Str.Lines.{lines}
use Rattle.std.specs.Str.Lossy.{utf8_valid_len}
use mathlib.Core.Bool.{not}
use Rattle.sem_bits.specs.declared.lines.LinesError.{LinesError}
use Rattle.sem_bits.specs.declared.lines.LinesError.TheVariants.{NotText, OutOfMemory}

-- the lines of a text that are not empty, each with its number from 1
abbrev pub numbered_lines : List ℕ → List (ℕ × List ℕ)
numbered_lines text = filter (λ l. not (length l.1 == 0)) (enumerate_from 1 (lines text))

-- the number of the line in which octets first break UTF-8
abbrev pub broken_line : List ℕ → ℕ
broken_line octets = 1 + count_by (λ o. o == 10) (take (utf8_valid_len octets) octets)

-- What an error of `lines` says of the octets: they are no text, and break in that line; or they are text, and memory ran out.
abbrev pub BlamesLines : LinesError → List ℕ → Type 0
BlamesLines (NotText line) octets = (¬ (IsUtf8 octets)) × (line ≡ broken_line octets)
BlamesLines OutOfMemory octets = IsUtf8 octets
