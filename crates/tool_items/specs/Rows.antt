-- The rows of `fields`, of what is lent of each field.
use Rattle.std.specs.Prelude.{ℕ, ◌-◌, max, List, [], ◌∷◌, ◌++◌, length, replicate}
use Rattle.tool_input.specs.BitTexts.{bits_text}
use Rattle.tool_items.specs.declared.rows.FieldRow.{FieldRow}
use Rattle.tool_items.specs.declared.rows.MethodWords.{MethodWords}
use Rattle.tool_items.specs.declared.rows.Widths.{Widths}
use Rattle.tool_names.specs.Table.{Row, cell_length, cells_text}

-- what encodes a field, with a point and a format where they stand behind it
abbrev pub words_of : MethodWords → List ℕ
words_of w = w.method.now ++ w.point.now ++ w.format.now

-- the cells of a row
abbrev pub row_of : FieldRow → Row
row_of r = (replicate r.indent 32 ++ r.name.now) ∷ r.part.now ∷ bits_text r.uncompressed.now ∷ bits_text r.compressed.now ∷ words_of r.method ∷ []

abbrev pub no_widths : Widths
no_widths = record { name = 0; part = 0; uncompressed = 0; compressed = 0 }

-- widths that have room for one more row
abbrev pub widened : Widths → Row → Widths
widened w row = record {
  name = max w.name (cell_length row 0);
  part = max w.part (cell_length row 1);
  uncompressed = max w.uncompressed (cell_length row 2);
  compressed = max w.compressed (cell_length row 3);
}

-- the line of a row: nothing fills up its last cell
abbrev pub line_text : Widths → FieldRow → List ℕ
line_text w r = 10 ∷ cells_text (w.name ∷ w.part ∷ w.uncompressed ∷ w.compressed ∷ []) 0 0 (row_of r)

-- a cell, and the blanks that fill its column up
abbrev pub filled_up : ℕ → List ℕ → List ℕ
filled_up width cell = cell ++ replicate (width - length cell) 32
