-- The lines of what a command tells, each cut into what it says (docs/FORMATS.md, JSON lines; Fault lines).
use Rattle.std.specs.Prelude.{ℕ, ◌+◌, ◌*◌, ◌/◌, ◌%◌, ◌^◌, ◌==◌, nat_lt, nat_le, ◌&&◌, ◌||◌, not, if◌then◌else◌, Bool, true, false, List, [], ◌∷◌, ◌++◌, codes, decimal, length, replicate, Option, Some, None, option_and_then, option_map, unwrap_or}
use Rattle.std.specs.List.{list_all, before_first, after_first, position_or_len}
use Rattle.std.specs.Str.{bytes_eq}
use Rattle.std.specs.Str.Parse.{digits_value}
use Rattle.tool_json.specs.declared.message.Telling.{Telling}
use Rattle.tool_json.specs.declared.message.Telling.TheVariants as telling
use Rattle.tool_json.specs.declared.message.MessagePlace.{MessagePlace}
use Rattle.tool_json.specs.declared.message.MessagePlace.TheVariants as place
use Rattle.tool_json.specs.declared.message.Subject.{Subject}
use Rattle.tool_json.specs.declared.message.Subject.TheVariants as subject
use Rattle.tool_json.specs.declared.message.Message.{Message}
use Rattle.tool_json.specs.declared.message.Message.TheVariants as message
use denote.Ref.{Bor}

-- ---- what a line says

-- where something is: at a line and a column of the profile, without and with the word `profile`; in a line of a part; at a number of a part; in a part
pub data Spot : Type 0 where
  at : ℕ → ℕ → Spot
  in_text : ℕ → ℕ → Spot
  in_line : List ℕ → ℕ → Spot
  numbered : List ℕ → ℕ → Spot
  in_part : List ℕ → Spot

-- what a warning is of: nothing, a name before a colon, or a name before a blank
pub data Topic : Type 0 where
  no_topic : Topic
  named : List ℕ → Topic
  that : List ℕ → Topic

pub data Told : Type 0 where
  accepted : Told
  fault : Spot → List ℕ → List ℕ → Told
  note : Spot → List ℕ → Told
  warning : Spot → Topic → List ℕ → Told
  head : List ℕ → ℕ → List ℕ → ℕ → Told
  reason : ℕ → ℕ → ℕ → List ℕ → List ℕ → Told
  avoided : List ℕ → ℕ → ℕ → ℕ → Option ℕ → Told
  against : ℕ → ℕ → List ℕ → Option ℕ → Told
  remark : List ℕ → Told

-- ---- the same of the code's values

abbrev pub spot : MessagePlace → Spot
spot (place.At line column) = at line column
spot (place.Text line column) = in_text line column
spot (place.Line part line) = in_line part.now line
spot (place.Numbered part number) = numbered part.now number
spot (place.Part part) = in_part part.now

abbrev pub topic : Subject → Topic
topic subject.None = no_topic
topic (subject.Named name) = named name.now
topic (subject.That name) = that name.now

abbrev pub told : Message → Told
told message.Accepted = accepted
told (message.Fault p code text) = fault (spot p) code.now text.now
told (message.Note p text) = note (spot p) text.now
told (message.Warning p s text) = warning (spot p) (topic s) text.now
told (message.Head what number format bits) = head what.now number format.now bits
told (message.Reason line column depth subject text) = reason line column depth subject.now text.now
told (message.Avoided format items others refused without) = avoided format.now items others refused without
told (message.Against items first by bits) = against items first by.now bits
told (message.Remark text) = remark text.now

-- a place, and what stands behind it
abbrev pub placed_text : MessagePlace × Bor (List ℕ) → Spot × List ℕ
placed_text p = (spot p.0, p.1.now)

-- ---- the line again

abbrev pub spot_text : Spot → List ℕ
spot_text (at line column) = decimal line ++ codes ":" ++ decimal column
spot_text (in_text line column) = codes "profile:" ++ decimal line ++ codes ":" ++ decimal column
spot_text (in_line part line) = part ++ codes ":" ++ decimal line
spot_text (numbered part number) = part ++ codes " " ++ decimal number
spot_text (in_part part) = part

abbrev pub topic_text : Topic → List ℕ
topic_text no_topic = codes ": "
topic_text (named name) = codes " " ++ name ++ codes ": "
topic_text (that name) = codes " " ++ name ++ codes " "

abbrev pub without_text : Option ℕ → List ℕ
without_text None = []
without_text (Some n) = codes " without " ++ decimal n

abbrev pub later_text : Option ℕ → List ℕ
later_text None = []
later_text (Some n) = codes ": it fits with " ++ decimal n ++ codes " bits, and comes later"

abbrev pub told_text : Told → List ℕ
told_text accepted = codes "accepted"
told_text (fault s code text) = spot_text s ++ codes ": " ++ code ++ codes " " ++ text
told_text (note s text) = spot_text s ++ codes ": " ++ text
told_text (warning s t text) = spot_text s ++ codes ": warning" ++ topic_text t ++ text
told_text (head what number format bits) = what ++ codes " " ++ decimal number ++ codes " " ++ format ++ codes " " ++ decimal bits ++ codes " bits"
told_text (reason line column depth name text) = decimal line ++ codes ":" ++ decimal column ++ codes ": " ++ replicate (2 * depth) 32 ++ name ++ codes ": " ++ text
told_text (avoided format items others refused without) =
    codes "format " ++ format ++ codes " items " ++ decimal items ++ codes " others " ++ decimal others ++ codes " refused " ++ decimal refused ++ without_text without
told_text (against items first by bits) = codes "items " ++ decimal items ++ codes " first " ++ decimal first ++ codes " by " ++ by ++ later_text bits
told_text (remark text) = text

-- ---- cuts

-- what stands before the first of these octets, and what after it
abbrev pub cut : ℕ → List ℕ → Option (List ℕ × List ℕ)
cut mark text = if nat_lt (position_or_len (λ b. b == mark) text) (length text) then Some (before_first (λ b. b == mark) text, after_first (λ b. b == mark) text) else None

-- what stands after an octet with which a text begins
abbrev pub after : ℕ → List ℕ → Option (List ℕ)
after mark [] = None
after mark (c ∷ cs) = if c == mark then Some cs else None

-- how many blanks a text begins with, counted on, and what stands after them
abbrev pub unindent : ℕ → List ℕ → ℕ × List ℕ
unindent n [] = (n, [])
unindent n (c ∷ cs) = if c == 32 then unindent (n + 1) cs else (n, c ∷ cs)

abbrev pub in_range : ℕ → ℕ → ℕ → Bool
in_range least most c = nat_le least c && nat_le c most

-- small letters, one or more
abbrev pub is_word : List ℕ → Bool
is_word text = not (length text == 0) && list_all (in_range 97 122) text

-- a capital letter, and one or two digits
abbrev pub is_code : List ℕ → Bool
is_code [] = false
is_code (c ∷ cs) = in_range 65 90 c && in_range 1 2 (length cs) && list_all (in_range 48 57) cs

abbrev pub when : {A : Type 0} → Bool → A → Option A
when b x = if b then Some x else None

-- the number below 2^64 that a text spells in decimal, without a sign and without leading zeros
abbrev pub number_of : List ℕ → Option ℕ
number_of text = when (bytes_eq (decimal (digits_value 10 text)) text && nat_lt (digits_value 10 text) (2 ^ 64)) (digits_value 10 text)

-- ---- places

-- a word, or a word and a number
abbrev pub lone_by : List ℕ → Option (List ℕ × List ℕ) → Option Spot
lone_by front None = when (is_word front) (in_part front)
lone_by front (Some p) = if is_word p.0 then option_map (numbered p.0) (number_of p.1) else None

abbrev pub lone_spot : List ℕ → Option Spot
lone_spot front = lone_by front (cut 32 front)

-- two numbers, or a word and a number
abbrev pub pair_by : List ℕ → ℕ → Option ℕ → Option Spot
pair_by front number (Some line) = Some (at line number)
pair_by front number None = when (is_word front) (in_line front number)

abbrev pub pair_spot : List ℕ → List ℕ → Option Spot
pair_spot front second = option_and_then (λ number. pair_by front number (number_of front)) (number_of second)

-- the word `profile` and two numbers
abbrev pub text_spot : List ℕ → List ℕ → List ℕ → Option Spot
text_spot front second third = if bytes_eq front (codes "profile") then option_and_then (λ line. option_map (in_text line) (number_of third)) (number_of second) else None

abbrev pub before : List ℕ → Option Spot → Option (Spot × List ℕ)
before rest o = option_map (λ s. (s, rest)) o

abbrev pub third_by : List ℕ → List ℕ → Option (List ℕ × List ℕ) → Option (Spot × List ℕ)
third_by front second None = None
third_by front second (Some p) = option_and_then (λ rest. before rest (text_spot front second p.0)) (after 32 p.1)

abbrev pub second_on : List ℕ → List ℕ → List ℕ → Option (List ℕ) → Option (Spot × List ℕ)
second_on front second more (Some rest) = before rest (pair_spot front second)
second_on front second more None = third_by front second (cut 58 more)

abbrev pub second_by : List ℕ → Option (List ℕ × List ℕ) → Option (Spot × List ℕ)
second_by front None = None
second_by front (Some p) = second_on front p.0 p.1 (after 32 p.1)

abbrev pub first_on : List ℕ → List ℕ → Option (List ℕ) → Option (Spot × List ℕ)
first_on front more (Some rest) = before rest (lone_spot front)
first_on front more None = second_by front (cut 58 more)

abbrev pub first_by : Option (List ℕ × List ℕ) → Option (Spot × List ℕ)
first_by None = None
first_by (Some p) = first_on p.0 p.1 (after 32 p.1)

-- the place at which a line begins, up to a colon and a blank, and what stands behind these
abbrev pub placed : List ℕ → Option (Spot × List ℕ)
placed line = first_by (cut 58 line)

-- ---- faults, notes, warnings

-- all but a line and a column alone
abbrev pub has_faults : Spot → Bool
has_faults (at line column) = false
has_faults (in_text line column) = true
has_faults (in_line part line) = true
has_faults (numbered part number) = true
has_faults (in_part part) = true

abbrev pub fault_by : Spot → Option (List ℕ × List ℕ) → Option Told
fault_by s None = None
fault_by s (Some p) = when (is_code p.0 && has_faults s) (fault s p.0 p.1)

abbrev pub fault_of : Spot → List ℕ → Option Told
fault_of s rest = fault_by s (cut 32 rest)

-- notes stand at a line
abbrev pub has_notes : Spot → Bool
has_notes (at line column) = true
has_notes (in_text line column) = false
has_notes (in_line part line) = true
has_notes (numbered part number) = false
has_notes (in_part part) = false

abbrev pub note_of : Spot → List ℕ → Option Told
note_of s rest = when (has_notes s) (note s rest)

-- warnings stand at a line and a column, or in a part
abbrev pub has_warnings : Spot → Bool
has_warnings (at line column) = true
has_warnings (in_text line column) = false
has_warnings (in_line part line) = false
has_warnings (numbered part number) = false
has_warnings (in_part part) = true

abbrev pub topic_by : List ℕ → Option (List ℕ × List ℕ) → Topic
topic_by word None = that word
topic_by word (Some p) = if length p.1 == 0 then named p.0 else that word

abbrev pub topic_of : List ℕ → Topic
topic_of word = topic_by word (cut 58 word)

abbrev pub about_by : Spot → Option (List ℕ × List ℕ) → Option Told
about_by s None = None
about_by s (Some p) = Some (warning s (topic_of p.0) p.1)

abbrev pub warning_by : Spot → Option (List ℕ × List ℕ) → Option Told
warning_by s None = None
warning_by s (Some p) = if bytes_eq p.0 (codes "warning:") then Some (warning s no_topic p.1) else if bytes_eq p.0 (codes "warning") then about_by s (cut 32 p.1) else None

abbrev pub warning_of : Spot → List ℕ → Option Told
warning_of s rest = if has_warnings s then warning_by s (cut 32 rest) else None

-- ---- reasons, head lines

abbrev pub reason_by : ℕ → ℕ → ℕ → Option (List ℕ × List ℕ) → Option Told
reason_by line column depth None = None
reason_by line column depth (Some p) = option_map (reason line column depth p.0) (after 32 p.1)

-- after a place stand two blanks for each level, a name, a colon and a blank
abbrev pub reason_in : ℕ → ℕ → ℕ × List ℕ → Option Told
reason_in line column p = if p.0 % 2 == 0 then reason_by line column (p.0 / 2) (cut 58 p.1) else None

abbrev pub reason_of : Spot → List ℕ → Option Told
reason_of (at line column) rest = reason_in line column (unindent 0 rest)
reason_of (in_text line column) rest = None
reason_of (in_line part line) rest = None
reason_of (numbered part number) rest = None
reason_of (in_part part) rest = None

abbrev pub bits_by : List ℕ → ℕ → List ℕ → Option (List ℕ × List ℕ) → Option Told
bits_by what number format None = None
bits_by what number format (Some p) = if bytes_eq p.1 (codes "bits") then option_map (head what number format) (number_of p.0) else None

abbrev pub format_by : List ℕ → ℕ → Option (List ℕ × List ℕ) → Option Told
format_by what number None = None
format_by what number (Some p) = bits_by what number p.0 (cut 32 p.1)

abbrev pub number_by : List ℕ → Option (List ℕ × List ℕ) → Option Told
number_by what None = None
number_by what (Some p) = option_and_then (λ number. format_by what number (cut 32 p.1)) (number_of p.0)

abbrev pub is_headed : List ℕ → Bool
is_headed what = bytes_eq what (codes "item") || bytes_eq what (codes "packet")

abbrev pub head_by : Option (List ℕ × List ℕ) → Option Told
head_by None = None
head_by (Some p) = if is_headed p.0 then number_by p.0 (cut 32 p.1) else None

abbrev pub head_of : List ℕ → Option Told
head_of line = head_by (cut 32 line)

-- ---- what stands against a format

abbrev pub counted_on : Option (List ℕ × List ℕ) → Option (ℕ × List ℕ)
counted_on None = None
counted_on (Some p) = option_map (λ n. (n, p.1)) (number_of p.0)

abbrev pub counted_by : List ℕ → Option (List ℕ × List ℕ) → Option (ℕ × List ℕ)
counted_by word None = None
counted_by word (Some p) = if bytes_eq p.0 word then counted_on (cut 32 p.1) else None

-- a word and a number, with a blank behind each, and what stands behind them
abbrev pub counted : List ℕ → List ℕ → Option (ℕ × List ℕ)
counted word text = counted_by word (cut 32 text)

abbrev pub last_by : List ℕ → Option (List ℕ × List ℕ) → Option ℕ
last_by word None = None
last_by word (Some p) = if bytes_eq p.0 word then number_of p.1 else None

-- a word and a number
abbrev pub last_count : List ℕ → List ℕ → Option ℕ
last_count word text = last_by word (cut 32 text)

abbrev pub without_by : Option (ℕ × List ℕ) → Option (ℕ × Option ℕ)
without_by None = None
without_by (Some p) = option_map (λ n. (p.0, Some n)) (last_count (codes "without") p.1)

abbrev pub refused_by : List ℕ → Option ℕ → Option (ℕ × Option ℕ)
refused_by text (Some n) = Some (n, None)
refused_by text None = without_by (counted (codes "refused") text)

-- how many are refused, and how many packets are without the method, where that is told
abbrev pub refused_of : List ℕ → Option (ℕ × Option ℕ)
refused_of text = refused_by text (last_count (codes "refused") text)

abbrev pub others_by : List ℕ → ℕ → Option (ℕ × List ℕ) → Option Told
others_by format items None = None
others_by format items (Some p) = option_map (λ q. avoided format items p.0 q.0 q.1) (refused_of p.1)

abbrev pub items_by : List ℕ → Option (ℕ × List ℕ) → Option Told
items_by format None = None
items_by format (Some p) = others_by format p.0 (counted (codes "others") p.1)

abbrev pub named_by : Option (List ℕ × List ℕ) → Option Told
named_by None = None
named_by (Some p) = items_by p.0 (counted (codes "items") p.1)

abbrev pub avoided_by : Option (List ℕ × List ℕ) → Option Told
avoided_by None = None
avoided_by (Some p) = if bytes_eq p.0 (codes "format") then named_by (cut 32 p.1) else None

abbrev pub avoided_of : List ℕ → Option Told
avoided_of line = avoided_by (cut 32 line)

abbrev pub fits_by : Option (ℕ × List ℕ) → Option ℕ
fits_by None = None
fits_by (Some p) = if bytes_eq p.1 (codes "bits, and comes later") then Some p.0 else None

abbrev pub word_by : List ℕ → Option (List ℕ × List ℕ) → Option (List ℕ)
word_by word None = None
word_by word (Some p) = if bytes_eq p.0 word then Some p.1 else None

-- what stands behind a word and a blank
abbrev pub behind : List ℕ → List ℕ → Option (List ℕ)
behind word text = word_by word (cut 32 text)

-- ` it fits with N bits, and comes later`
abbrev pub later_of : List ℕ → Option ℕ
later_of text = option_and_then (λ t. option_and_then (λ u. option_and_then (λ v. fits_by (counted (codes "with") v)) (behind (codes "fits") u)) (behind (codes "it") t)) (after 32 text)

abbrev pub taker_by : ℕ → ℕ → List ℕ → Option (List ℕ × List ℕ) → Option Told
taker_by items first text None = Some (against items first text None)
taker_by items first text (Some p) = option_map (λ n. against items first p.0 (Some n)) (later_of p.1)

abbrev pub first_of : ℕ → Option (ℕ × List ℕ) → Option Told
first_of items None = None
first_of items (Some p) = option_and_then (λ t. taker_by items p.0 t (cut 58 t)) (behind (codes "by") p.1)

abbrev pub block_by : Option (ℕ × List ℕ) → Option Told
block_by None = None
block_by (Some p) = first_of p.0 (counted (codes "first") p.1)

abbrev pub against_of : List ℕ → Option Told
against_of line = block_by (counted (codes "items") line)

-- ---- lines

abbrev pub or_else : Option Told → Option Told → Option Told
or_else (Some t) o = Some t
or_else None o = o

-- what a line with a place says, but for a fault
abbrev pub other_of : Telling → Spot → List ℕ → Option Told
other_of telling.Judging s rest = note_of s rest
other_of telling.Warning s rest = warning_of s rest
other_of telling.Reasons s rest = reason_of s rest
other_of telling.Faults s rest = None

-- what a line without a place says
abbrev pub unplaced : Telling → List ℕ → Option Told
unplaced telling.Judging line = when (bytes_eq line (codes "accepted")) accepted
unplaced telling.Warning line = None
unplaced telling.Reasons line = or_else (head_of line) (or_else (avoided_of line) (against_of line))
unplaced telling.Faults line = None

abbrev pub told_by : Telling → List ℕ → Option (Spot × List ℕ) → Option Told
told_by which line None = unplaced which line
told_by which line (Some p) = or_else (fault_of p.0 p.1) (other_of which p.0 p.1)

-- What a line says; a line of no form is a remark.
abbrev pub told_of : Telling → List ℕ → Told
told_of which line = unwrap_or (told_by which line (placed line)) (remark line)
