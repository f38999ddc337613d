-- Which octets are the text of a profile, and where an octet stands in it (docs/FORMATS.md).
use Rattle.std.specs.Prelude.{◌≡◌, ℕ, ◌+◌, ◌^◌, ◌<◌, ◌≤◌, Bool, ◌||◌, ◌==◌, nat_lt, nat_le, ◌⊎◌, List, length, take, count_by, IsUtf8}
use Rattle.std.specs.List.{after_last}
use Rattle.std.specs.Str.Lossy.{utf8_valid_len}
use Rattle.text_source.specs.declared.fault.Fault.{Fault}
use Rattle.text_source.specs.declared.fault.FaultKind.{FaultKind}
use Rattle.text_source.specs.declared.fault.FaultKind.TheVariants as f

-- a fault at the octets from one to another
abbrev pub fault_at : FaultKind → ℕ → ℕ → Fault
fault_at kind from to = record { kind = kind; at = record { from = from; to = to } }

-- octets that are the text of a profile: UTF-8 of at most 1 MiB
abbrev pub IsText : List ℕ → Type 0
IsText octets = (length octets ≤ 2 ^ 20) × IsUtf8 octets

-- Which fault octets have that are no such text: too long at the start, else no UTF-8 at the first octet of the first sequence that is none.
abbrev pub IsRefused : List ℕ → Fault → Type 0
IsRefused octets fault =
    ((2 ^ 20 < length octets) × (fault ≡ fault_at f.TooLong 0 0))
    ⊎ ((length octets ≤ 2 ^ 20) × ¬ (IsUtf8 octets) × (fault ≡ fault_at f.NotUtf8 (utf8_valid_len octets) (utf8_valid_len octets + 1)))

-- in UTF-8 a character goes on at the octets from 128 to 191, and begins at each other
abbrev pub begins_character : ℕ → Bool
begins_character c = nat_lt c 128 || nat_le 192 c

abbrev pub is_line_end : ℕ → Bool
is_line_end c = c == 10

-- the line of an offset: how many lines end before it, counted from 1
abbrev pub line_of : List ℕ → ℕ → ℕ
line_of octets offset = 1 + count_by is_line_end (take offset octets)

-- the column of an offset: how many characters of its line begin before it, counted from 1
abbrev pub column_of : List ℕ → ℕ → ℕ
column_of octets offset = 1 + count_by begins_character (after_last is_line_end (take offset octets))
