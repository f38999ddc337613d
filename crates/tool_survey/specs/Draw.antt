-- What `draw` prints: a diagram of the packed bits of each format (docs/FORMATS.md).
use Rattle.std.specs.Prelude.{◌≡◌, ℕ, ◌+◌, ◌-◌, ◌*◌, ◌/◌, ◌%◌, ◌^◌, min, nat_eq, nat_le, nat_lt, ◌&&◌, ◌||◌, Bool, List, [], ◌++◌, length, ℤ, Option, Some, None, codes, decimal, flat_map, option_map, replicate, string_bytes, unwrap_or, if◌then◌else◌}
use Rattle.std.specs.Int.RustNames.{unsigned_abs}
use Rattle.std.specs.List.{enumerate_from, range_with_len}
use Rattle.sem_profile.specs.declared.profile.Bounds.{Bounds}
use Rattle.sem_profile.specs.declared.profile.Encoding.{Encoding}
use Rattle.sem_profile.specs.declared.profile.Encoding.TheVariants as encoding
use Rattle.sem_profile.specs.declared.profile.Field.{Field}
use Rattle.sem_profile.specs.declared.profile.Format.{Format}
use Rattle.sem_profile.specs.declared.profile.FormatSizes.{FormatSizes}
use Rattle.sem_profile.specs.declared.profile.Method.{Method}
use Rattle.sem_profile.specs.declared.profile.MethodSizes.{MethodSizes}
use Rattle.sem_profile.specs.Resolved.{Resolved}
use Rattle.sem_filling.specs.Bounded.{sizes_at}
use Rattle.sem_lint.specs.declared.columns.Column.{Column}
use Rattle.sem_lint.specs.Columns.{capped, columns_at}
use Rattle.tool_input.specs.declared.status.Answer.{Answer}
use Rattle.tool_input.specs.declared.status.Status.TheVariants as status
use Rattle.tool_names.specs.Names.{field_at, field_name, format_name, formats_of, method_name}

-- ---- words

abbrev pub unit_of : ℕ → List ℕ
unit_of n = if nat_eq n 1 then codes " bit" else codes " bits"

-- how many bits: the one number, or both
abbrev pub count_words : Bounds → List ℕ
count_words b = if nat_eq b.least b.most then decimal b.least ++ unit_of b.least else decimal b.least ++ codes " to " ++ decimal b.most ++ codes " bits"

-- a field that calls a method, with that method's name
abbrev pub call_words : List Method → Option Encoding → List ℕ
call_words methods (Some (encoding.Call j arguments)) = codes " =:= " ++ method_name methods j
call_words methods (Some _) = []
call_words methods None = []

-- the name of the field i
abbrev pub label : List Method → ℕ → ℕ → ℕ → List ℕ
label methods k n i = field_name methods k n i ++ call_words methods (option_map (λ (d : Field). d.encoding) (field_at methods k n i))

-- ---- rows of octets: each bit takes four characters

abbrev pub rule : List ℕ
rule = codes "  +---+---+---+---+---+---+---+---+\n"

-- the numbers of the bits of a row
abbrev pub scale : List ℕ
scale = codes "    0   1   2   3   4   5   6   7\n"

-- where a bit stands in its row, of bits that begin at a place
abbrev pub place_in_row : ℕ → ℕ → ℕ
place_in_row start bit = (start % 8 + bit % 8) % 8

-- the end of a row, after its last bit
abbrev pub row_end : ℕ → List ℕ
row_end at = if nat_eq at 7 then codes "|\n" ++ rule else []

-- what stands before a bit: the row's first bit begins a box, and so does the first bit of a field
abbrev pub bit_start : ℕ → ℕ → List ℕ
bit_start at bit = if nat_eq at 0 then codes "  | " else (if nat_eq bit 0 then codes "| " else codes "  ")

-- the binary digit of a number at a place, counted from the last one; numbers are below 2 ^ 127
abbrev pub digit : ℕ → ℕ → List ℕ
digit number place = if nat_lt place 127 then (if nat_eq (number / 2 ^ place % 2) 1 then codes "1" else codes "0") else codes "0"

-- a bit of a number that has so many bits, which begin at a place of a row
abbrev pub number_cell : ℕ → ℕ → ℕ → ℕ → List ℕ
number_cell number start width bit =
    bit_start (place_in_row start bit) bit ++ digit number (width - 1 - bit) ++ codes " " ++ row_end (place_in_row start bit)

abbrev pub number_cells : ℕ → ℕ → ℕ → List ℕ
number_cells number start width = flat_map (number_cell number start width) (range_with_len 0 width)

-- how many characters a text may have in the box from a place of a row on, of so many bits that are left
abbrev pub room : ℕ → ℕ → ℕ
room at left = 4 * min left (8 - at) - 2

-- a text in a box: an asterisk, where there is no room for it
abbrev pub boxed : ℕ → List ℕ → List ℕ
boxed room text = if nat_le (length text) room then text ++ replicate (room - length text) 32 else codes "*" ++ replicate (room - 1) 32

-- a field's name stands in its first box, and dots in the box of each row on which it goes on
abbrev pub box_text : List ℕ → ℕ → List ℕ
box_text name bit = if nat_eq bit 0 then name else codes ".."

-- a bit of a field with a name: at the field's first bit, and at each row's, a box begins
abbrev pub name_cell : List ℕ → ℕ → ℕ → ℕ → List ℕ
name_cell name start width bit =
    (if nat_eq (place_in_row start bit) 0 || nat_eq bit 0 then bit_start (place_in_row start bit) bit ++ boxed (room (place_in_row start bit) (width - bit)) (box_text name bit) else [])
    ++ row_end (place_in_row start bit)

abbrev pub name_cells : List ℕ → ℕ → ℕ → List ℕ
name_cells name start width = flat_map (name_cell name start width) (range_with_len 0 width)

-- ---- columns

abbrev pub is_one : Bounds → Bool
is_one b = nat_eq b.least b.most

-- a row that ended before its last bit
abbrev pub open_end : Bounds → List ℕ
open_end b = if is_one b && nat_lt 0 (b.least % 8) then codes "|\n" ++ rule else []

-- a row of its own, for bits without one place or one length
abbrev pub wide_words : List ℕ → Bounds → List ℕ
wide_words name width = name ++ codes " (" ++ count_words width ++ codes ")"

abbrev pub wide_row : List ℕ → List ℕ
wide_row words = codes "  : " ++ words ++ replicate (30 - length words) 32 ++ codes ":\n" ++ rule

-- bits with one place and one length
abbrev pub fixed_text : List ℕ → Column → Option ℤ → List ℕ
fixed_text name c (Some v) = number_cells (unsigned_abs v) c.offset.least c.width.least
fixed_text name c None = name_cells name c.offset.least c.width.least

abbrev pub is_fixed : Column → Bool
is_fixed c = is_one c.offset && is_one c.width

-- a field that never has packed bits is not drawn
abbrev pub column_text : List ℕ → Column → List ℕ
column_text name c = if nat_eq c.width.most 0 then [] else (if is_fixed c then fixed_text name c c.constant else open_end c.offset ++ wide_row (wide_words name c.width))

-- the bits of a field whose name has no room in its first box
abbrev pub bits_words : ℕ → ℕ → List ℕ
bits_words from width = if nat_eq width 1 then codes "  bit " ++ decimal from else codes "  bits " ++ decimal from ++ codes " to " ++ decimal (capped from (width - 1))

abbrev pub name_note : List ℕ → ℕ → ℕ → List ℕ
name_note name from width = if nat_le (length name) (room (place_in_row from 0) width) then [] else bits_words from width ++ codes ": " ++ name ++ codes "\n"

abbrev pub fixed_note : List ℕ → Column → Option ℤ → List ℕ
fixed_note name c (Some v) = []
fixed_note name c None = name_note name c.offset.least c.width.least

abbrev pub note_text : List ℕ → Column → List ℕ
note_text name c = if nat_eq c.width.most 0 then [] else (if is_fixed c then fixed_note name c c.constant else [])

-- ---- formats

abbrev pub columns_text : List Method → ℕ → ℕ → List Column → List ℕ
columns_text methods k n cs = flat_map (λ (c : Column). column_text (label methods k n c.field) c) cs

abbrev pub notes_text : List Method → ℕ → ℕ → List Column → List ℕ
notes_text methods k n cs = flat_map (λ (c : Column). note_text (label methods k n c.field) c) cs

-- the rows of columns that end there, with the notes below
abbrev pub rows : List Method → ℕ → ℕ → Bounds → List Column → List ℕ
rows methods k n end cs = scale ++ rule ++ columns_text methods k n cs ++ open_end end ++ notes_text methods k n cs

-- their diagram: none where there are no bits
abbrev pub diagram : List Method → ℕ → ℕ → Bounds → List Column → List ℕ
diagram methods k n end cs = if nat_eq end.most 0 then [] else rows methods k n end cs

-- the bounds of the packed bits of a format
abbrev pub packed_bounds : List MethodSizes → ℕ → ℕ → Bounds
packed_bounds table k n = unwrap_or (option_map (λ (s : FormatSizes). s.whole.compressed) (sizes_at table k n)) (record { least = 0; most = 0 })

abbrev pub heading : List ℕ → List ℕ → Bounds → List ℕ
heading method format bounds = method ++ codes "." ++ format ++ codes "  " ++ count_words bounds ++ codes "\n"

-- a format: its names, the bounds of its packed bits, and the diagram of its columns
abbrev pub format_text : Resolved → ℕ → ℕ → List ℕ
format_text p k n =
    heading (method_name p.methods k) (format_name p.methods k n) (packed_bounds p.sizes k n) ++ diagram p.methods k n (packed_bounds p.sizes k n) (columns_at p k n)

abbrev pub method_text : Resolved → ℕ → List Format → List ℕ
method_text p k formats = flat_map (λ (f : ℕ × Format). format_text p k f.0) (enumerate_from 0 formats)

-- a method that is not the top
abbrev pub called_text : Resolved → ℕ → Method → List ℕ
called_text p k m = if nat_eq k p.top then [] else method_text p k m.formats

-- the formats of the top, and then those of the methods that it reaches
abbrev pub drawn : Resolved → List ℕ
drawn p = method_text p p.top (formats_of p.methods p.top) ++ flat_map (λ (m : ℕ × Method). called_text p m.0 m.1) (enumerate_from 0 p.methods)

-- the diagrams of a profile
abbrev pub DrawsProfile : Resolved → Answer → Type 0
DrawsProfile p a = (a.status ≡ status.Done) × (string_bytes a.output ≡ drawn p)
