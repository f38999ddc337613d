-- A table: rows of cells, each a text. A column is as wide as its longest cell.
use Rattle.std.specs.Prelude.{ℕ, ◌+◌, ◌-◌, max, List, [], ◌∷◌, ◌++◌, codes, fold, flat_map, get_or, length, map, option_map, replicate, slice_get, unwrap_or}
use Rattle.std.specs.List.{range_with_len}

abbrev pub Row : Type 0
Row = List (List ℕ)

-- the length of a row's cell in a column, 0 where it has none
abbrev pub cell_length : Row → ℕ → ℕ
cell_length row j = unwrap_or (option_map length (slice_get row j)) 0

-- the length of the longest cell in a column
abbrev pub width : List Row → ℕ → ℕ
width rows j = fold (λ most row. max most (cell_length row j)) 0 rows

-- the columns of a table are those of its first row
abbrev pub columns : List Row → ℕ
columns [] = 0
columns (first ∷ rows) = length first

abbrev pub widths : List Row → List ℕ
widths rows = map (width rows) (range_with_len 0 (columns rows))

-- The cells of a row from a column on. Before each stand the blanks that fill up the column before, which are gap at first, and two more.
abbrev pub cells_text : List ℕ → ℕ → ℕ → Row → List ℕ
cells_text widths j gap [] = []
cells_text widths j gap (cell ∷ cells) = (replicate gap 32 ++ codes "  " ++ cell) ++ cells_text widths (j + 1) (get_or widths j 0 - length cell) cells

-- a line for each row, after a line feed
abbrev pub table : List Row → List ℕ
table rows = flat_map (λ row. 10 ∷ cells_text (widths rows) 0 0 row) rows
