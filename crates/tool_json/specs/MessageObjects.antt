-- The lines of what a command tells as objects of JSON, one a line (docs/FORMATS.md, JSON lines).
use Rattle.std.specs.Prelude.{ℕ, ◌==◌, if◌then◌else◌, List, [], ◌++◌, codes, flat_map, length, Option, Some, None}
use Rattle.std.specs.List.{slice_split}
use Rattle.std.specs.Str.{bytes_eq}
use Rattle.json.specs.Token.{Token}
use Rattle.tool_json.specs.declared.message.Telling.{Telling}
use Rattle.tool_json.specs.Messages.{Spot, at, in_text, in_line, numbered, in_part, Topic, no_topic, named, that, Told, accepted, fault, note, warning, head, reason, avoided, against, remark, cut, number_of, told_of}
use Rattle.tool_names.specs.Objects as json

-- ---- the members of a place and of a topic

abbrev pub part_of : Spot → List ℕ
part_of (at line column) = codes "profile"
part_of (in_text line column) = codes "profile"
part_of (in_line part line) = part
part_of (numbered part number) = part
part_of (in_part part) = part

abbrev pub line_of : Spot → Option ℕ
line_of (at line column) = Some line
line_of (in_text line column) = Some line
line_of (in_line part line) = Some line
line_of (numbered part number) = None
line_of (in_part part) = None

abbrev pub column_of : Spot → Option ℕ
column_of (at line column) = Some column
column_of (in_text line column) = Some column
column_of (in_line part line) = None
column_of (numbered part number) = None
column_of (in_part part) = None

abbrev pub number_at : Spot → Option ℕ
number_at (at line column) = None
number_at (in_text line column) = None
number_at (in_line part line) = None
number_at (numbered part number) = Some number
number_at (in_part part) = None

abbrev pub name_of : Topic → Option (List ℕ)
name_of no_topic = None
name_of (named name) = Some name
name_of (that name) = Some name

-- ---- the members of a line's object

abbrev pub of_kind : List ℕ → List Token
of_kind kind = json.opened ++ json.text (codes "kind") kind

abbrev pub at_place : List ℕ → Spot → List Token
at_place kind s = of_kind kind ++ json.text (codes "part") (part_of s) ++ json.optional_number (codes "line") (line_of s) ++ json.optional_number (codes "column") (column_of s)

abbrev pub fault_tokens : Spot → List ℕ → List ℕ → List Token
fault_tokens s code text = at_place (codes "fault") s ++ json.optional_number (codes "number") (number_at s) ++ json.text (codes "code") code ++ json.text (codes "text") text

abbrev pub note_tokens : Spot → List ℕ → List Token
note_tokens s text = at_place (codes "note") s ++ json.text (codes "text") text

abbrev pub warning_tokens : Spot → Topic → List ℕ → List Token
warning_tokens s topic text = at_place (codes "warning") s ++ json.optional_text (codes "subject") (name_of topic) ++ json.text (codes "text") text

abbrev pub head_tokens : List ℕ → ℕ → List ℕ → ℕ → List Token
head_tokens what number format bits = of_kind what ++ json.number (codes "number") number ++ json.text (codes "format") format ++ json.number (codes "bits") bits

abbrev pub reason_tokens : ℕ → ℕ → ℕ → List ℕ → List ℕ → List Token
reason_tokens line column depth name text =
    of_kind (codes "reason") ++ json.number (codes "line") line ++ json.number (codes "column") column ++ json.number (codes "depth") depth
    ++ json.text (codes "subject") name ++ json.text (codes "text") text

abbrev pub avoided_tokens : List ℕ → ℕ → ℕ → ℕ → Option ℕ → List Token
avoided_tokens format items others refused without =
    of_kind (codes "avoided") ++ json.text (codes "format") format ++ json.number (codes "items") items ++ json.number (codes "others") others
    ++ json.number (codes "refused") refused ++ json.optional_number (codes "without") without

abbrev pub against_tokens : ℕ → ℕ → List ℕ → Option ℕ → List Token
against_tokens items first by bits =
    of_kind (codes "against") ++ json.number (codes "items") items ++ json.number (codes "first") first ++ json.text (codes "by") by ++ json.optional_number (codes "bits") bits

abbrev pub remark_tokens : List ℕ → List Token
remark_tokens text = of_kind (codes "remark") ++ json.text (codes "text") text

-- the object of what a line says, but for its end
abbrev pub object : Told → List Token
object accepted = of_kind (codes "accepted")
object (fault s code text) = fault_tokens s code text
object (note s text) = note_tokens s text
object (warning s topic text) = warning_tokens s topic text
object (head what number format bits) = head_tokens what number format bits
object (reason line column depth name text) = reason_tokens line column depth name text
object (avoided format items others refused without) = avoided_tokens format items others refused without
object (against items first by bits) = against_tokens items first by bits
object (remark text) = remark_tokens text

-- ---- all lines

abbrev pub lines_of : List ℕ → List (List ℕ)
lines_of text = slice_split (λ octet. octet == 10) text

abbrev pub line_json : Telling → List ℕ → List ℕ
line_json which line = if length line == 0 then [] else json.line (object (told_of which line))

-- An object for each line of a text, but for the empty ones.
abbrev pub messages_json : Telling → List ℕ → List ℕ
messages_json which text = flat_map (line_json which) (lines_of text)

-- ---- a certificate

abbrev pub version_by : Option (List ℕ × List ℕ) → Option ℕ
version_by None = None
version_by (Some p) = if bytes_eq p.0 (codes "rohcfn-certificate") then number_of p.1 else None

abbrev pub first_by : Option (List ℕ × List ℕ) → Option ℕ
first_by None = None
first_by (Some p) = version_by (cut 32 p.0)

-- the number behind the word of the first line
abbrev pub version_of : List ℕ → Option ℕ
version_of text = first_by (cut 10 text)

abbrev pub element : List ℕ → List Token
element line = if length line == 0 then [] else json.element line

abbrev pub certificate : List ℕ → List Token
certificate text =
    of_kind (codes "certificate") ++ json.optional_number (codes "version") (version_of text)
    ++ json.array_opened (codes "lines") ++ flat_map element (lines_of text) ++ json.array_closed

-- One object for a whole certificate, with its lines but for the empty ones.
abbrev pub certificate_json : List ℕ → List ℕ
certificate_json text = json.line (certificate text)
