-- Rows in their columns: widths found in one pass are those of the table.
use Rattle.std.proofs.Common.{◌≡◌, ℕ, suc, ◌+◌, ◌-◌, ◌*◌, ◌/◌, Bool, List, [], ◌∷◌, ◌++◌, codes, length, map, replicate, refl, sym, ap, ◌∙◌, append_assoc, arith}
use Rattle.std.specs.Prelude.{decimal, flat_map, fold, max}
use Rattle.std.proofs.lemmas.List.{append-nil, length-append}
use Rattle.std.specs.Fmt.{digits}
use Rattle.hex.specs.Hex.{encode_lower, encode_with, lower_digits}
use Rattle.hex.proofs.HexLemmas.{length-encode_with}
use Rattle.sem_bits.specs.Text.{IsText}
use Rattle.tool_input.specs.ItemTexts.{HasMore}
use Rattle.tool_input.proofs.BitTextsSpelled.{text_is}
use Rattle.tool_input.specs.BitTexts.{bits_text, octets_of}
use Rattle.tool_items.specs.Rows.{filled_up, line_text, no_widths, row_of, widened, words_of}
use Rattle.tool_items.specs.declared.rows.FieldRow.{FieldRow}
use Rattle.tool_items.specs.declared.rows.Widths.{Widths}
use Rattle.tool_names.specs.Table.{Row, cell_length, cells_text, table, width, widths}

-- ---- widths

-- the length of the longest cell in a column, and so many octets at least
abbrev widest : List Row → ℕ → ℕ → ℕ
widest rows j least = fold (λ most row. max most (cell_length row j)) least rows

name_is : (w : Widths) (rows : List Row) → (fold widened w rows).name ≡ widest rows 0 w.name
name_is w [] = refl
name_is w (row ∷ rows) = name_is (widened w row) rows

part_is : (w : Widths) (rows : List Row) → (fold widened w rows).part ≡ widest rows 1 w.part
part_is w [] = refl
part_is w (row ∷ rows) = part_is (widened w row) rows

uncompressed_is : (w : Widths) (rows : List Row) → (fold widened w rows).uncompressed ≡ widest rows 2 w.uncompressed
uncompressed_is w [] = refl
uncompressed_is w (row ∷ rows) = uncompressed_is (widened w row) rows

compressed_is : (w : Widths) (rows : List Row) → (fold widened w rows).compressed ≡ widest rows 3 w.compressed
compressed_is w [] = refl
compressed_is w (row ∷ rows) = compressed_is (widened w row) rows

-- ---- lines

-- the line of a row by the widths of a table, which has a row
line_in : (first : FieldRow) (rows : List FieldRow) (r : FieldRow) → line_text (fold widened no_widths (map row_of (first ∷ rows))) r ≡ 10 ∷ cells_text (widths (map row_of (first ∷ rows))) 0 0 (row_of r)
line_in first rows r =
    let all = map row_of (first ∷ rows) in
    λ i. 10 ∷ cells_text (name_is no_widths all i ∷ part_is no_widths all i ∷ uncompressed_is no_widths all i ∷ compressed_is no_widths all i ∷ []) 0 0 (row_of r)

lines_in : (first : FieldRow) (rows these : List FieldRow) →
    flat_map (line_text (fold widened no_widths (map row_of (first ∷ rows)))) these ≡ flat_map (λ row. 10 ∷ cells_text (widths (map row_of (first ∷ rows))) 0 0 row) (map row_of these)
lines_in first rows [] = refl
lines_in first rows (r ∷ these) = λ i. line_in first rows r i ++ lines_in first rows these i

-- the lines of all rows are the table
pub table_is : (rows : List FieldRow) → flat_map (line_text (fold widened no_widths (map row_of rows))) rows ≡ table (map row_of rows)
table_is [] = refl
table_is (first ∷ rows) = lines_in first rows (first ∷ rows)

-- a cell and what fills it up, before the rest of the line
cell_on : (cell gap next rest line : List ℕ) → line ≡ next ++ rest → (cell ++ gap) ++ (codes "  " ++ line) ≡ cell ++ (((gap ++ codes "  ") ++ next) ++ rest)
cell_on cell gap next rest line is =
    let back = append_assoc (gap ++ codes "  ") next rest ∙ append_assoc gap (codes "  ") (next ++ rest) in
    append_assoc cell gap (codes "  " ++ line) ∙ ap (λ t. cell ++ (gap ++ (codes "  " ++ t))) is ∙ ap (λ t. cell ++ t) (sym back)

cells_on : (a gap-a b gap-b c gap-c d gap-d e : List ℕ) →
    (a ++ gap-a) ++ (codes "  " ++ ((b ++ gap-b) ++ (codes "  " ++ ((c ++ gap-c) ++ (codes "  " ++ ((d ++ gap-d) ++ (codes "  " ++ e)))))))
    ≡ a ++ (((gap-a ++ codes "  ") ++ b) ++ (((gap-b ++ codes "  ") ++ c) ++ (((gap-c ++ codes "  ") ++ d) ++ (((gap-d ++ codes "  ") ++ e) ++ []))))
cells_on a gap-a b gap-b c gap-c d gap-d e =
    let past_d : List ℕ = ((gap-d ++ codes "  ") ++ e) ++ [] in
    let past_c : List ℕ = ((gap-c ++ codes "  ") ++ d) ++ past_d in
    let past_b : List ℕ = ((gap-b ++ codes "  ") ++ c) ++ past_c in
    let from_d = cell_on d gap-d e [] e (sym (append-nil e)) in
    let from_c = cell_on c gap-c d past_d ((d ++ gap-d) ++ (codes "  " ++ e)) from_d in
    let from_b = cell_on b gap-b c past_c ((c ++ gap-c) ++ (codes "  " ++ ((d ++ gap-d) ++ (codes "  " ++ e)))) from_c in
    cell_on a gap-a b past_b ((b ++ gap-b) ++ (codes "  " ++ ((c ++ gap-c) ++ (codes "  " ++ ((d ++ gap-d) ++ (codes "  " ++ e)))))) from_b

-- two texts that come one after the other
both : (s t u a b : List ℕ) → t ≡ s ++ a → u ≡ t ++ b → u ≡ s ++ (a ++ b)
both s t u a b first second = second ∙ ap (λ x. x ++ b) first ∙ append_assoc s a b

-- what is pushed of a row, piece by piece, is its line
pub line_made : (w : Widths) (r : FieldRow) (p0 p1 p2 p3 p4 p5 p6 p7 p8 p9 p10 : List ℕ) →
    p1 ≡ p0 ++ codes "\n  " → p2 ≡ p1 ++ filled_up w.name (replicate r.indent 32 ++ r.name.now) →
    p3 ≡ p2 ++ codes "  " → p4 ≡ p3 ++ filled_up w.part r.part.now →
    p5 ≡ p4 ++ codes "  " → p6 ≡ p5 ++ filled_up w.uncompressed (bits_text r.uncompressed.now) →
    p7 ≡ p6 ++ codes "  " → p8 ≡ p7 ++ filled_up w.compressed (bits_text r.compressed.now) →
    p9 ≡ p8 ++ codes "  " → p10 ≡ p9 ++ words_of r.method → p10 ≡ p0 ++ line_text w r
line_made w r p0 p1 p2 p3 p4 p5 p6 p7 p8 p9 p10 e1 e2 e3 e4 e5 e6 e7 e8 e9 e10 =
    let blanks : List ℕ = codes "  " in
    let name : List ℕ = replicate r.indent 32 ++ r.name.now in
    let part : List ℕ = r.part.now in
    let one : List ℕ = bits_text r.uncompressed.now in
    let other : List ℕ = bits_text r.compressed.now in
    let words : List ℕ = words_of r.method in
    let past8 : List ℕ = blanks ++ words in
    let past7 : List ℕ = filled_up w.compressed other ++ past8 in
    let past6 : List ℕ = blanks ++ past7 in
    let past5 : List ℕ = filled_up w.uncompressed one ++ past6 in
    let past4 : List ℕ = blanks ++ past5 in
    let past3 : List ℕ = filled_up w.part part ++ past4 in
    let past2 : List ℕ = blanks ++ past3 in
    let past1 : List ℕ = filled_up w.name name ++ past2 in
    let from8 = both p8 p9 p10 blanks words e9 e10 in
    let from7 = both p7 p8 p10 (filled_up w.compressed other) past8 e8 from8 in
    let from6 = both p6 p7 p10 blanks past7 e7 from7 in
    let from5 = both p5 p6 p10 (filled_up w.uncompressed one) past6 e6 from6 in
    let from4 = both p4 p5 p10 blanks past5 e5 from5 in
    let from3 = both p3 p4 p10 (filled_up w.part part) past4 e4 from4 in
    let from2 = both p2 p3 p10 blanks past3 e3 from3 in
    let from1 = both p1 p2 p10 (filled_up w.name name) past2 e2 from2 in
    let gap : ℕ → List ℕ → List ℕ = λ width cell. replicate (width - length cell) 32 in
    let cells = cells_on name (gap w.name name) part (gap w.part part) one (gap w.uncompressed one) other (gap w.compressed other) words in
    both p0 p1 p10 (codes "\n  ") past1 e1 from1 ∙ ap (λ t. p0 ++ (codes "\n  " ++ t)) cells

-- ---- the text of bits

octets_length : (bits : List Bool) → length (octets_of bits) ≡ (length bits + 7) / 8
octets_length [] = refl
octets_length (a ∷ []) = refl
octets_length (a ∷ b ∷ []) = refl
octets_length (a ∷ b ∷ c ∷ []) = refl
octets_length (a ∷ b ∷ c ∷ d ∷ []) = refl
octets_length (a ∷ b ∷ c ∷ d ∷ e ∷ []) = refl
octets_length (a ∷ b ∷ c ∷ d ∷ e ∷ f ∷ []) = refl
octets_length (a ∷ b ∷ c ∷ d ∷ e ∷ f ∷ g ∷ []) = refl
octets_length (a ∷ b ∷ c ∷ d ∷ e ∷ f ∷ g ∷ h ∷ more) =
    let rest = octets_length more in
    let same : suc (length (octets_of more)) ≡ (length (a ∷ b ∷ c ∷ d ∷ e ∷ f ∷ g ∷ h ∷ more) + 7) / 8 = omega (arith, rest) in same

-- how many octets the text of bits has
pub text_length : (bits : List Bool) → length (decimal (length bits)) + 1 + (length bits + 7) / 8 * 2 ≡ length (bits_text bits)
text_length bits =
    let count = decimal (length bits) in
    let joined = length-append count (58 ∷ encode_lower (octets_of bits)) in
    let digits = length-encode_with lower_digits (octets_of bits) in
    let octets = octets_length bits in
    omega (arith, joined, digits, octets)

pub none_text : (bits : List Bool) → bits ≡ [] → codes "0:" ≡ bits_text bits
unfolding digits encode_with
none_text bits none = ap bits_text (sym none)

-- a text that goes on by a text of bits
pub text_on : (bits : List Bool) (before after : List ℕ) → HasMore (λ text. IsText text bits) before after → after ≡ before ++ bits_text bits
text_on bits before after (text, is, on) = on ∙ ap (λ t. before ++ t) (text_is text bits is)
