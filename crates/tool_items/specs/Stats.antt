-- What `stats` prints of what was packed: a head line, and a table of the formats of the top, their fields and what is inside these (docs/FORMATS.md).
use Rattle.std.specs.Prelude.{ℕ, zero, suc, ◌+◌, ◌*◌, ◌/◌, ◌%◌, List, [], ◌∷◌, ◌++◌, Option, None, Some, codes, decimal, flat_map, nat_eq, replicate, if◌then◌else◌}
use Rattle.std.specs.List.{enumerate_from}
use Rattle.sem_filling.specs.declared.filling.Filling.{Filling}
use Rattle.sem_profile.specs.declared.profile.Format.{Format}
use Rattle.sem_profile.specs.declared.profile.Method.{Method}
use Rattle.tool_items.specs.declared.counts.Tally.{Tally}
use Rattle.tool_items.specs.Counts.{insides, tally, tally_field, tally_format}
use Rattle.tool_items.specs.Depth.{deepest}
use Rattle.tool_items.specs.Counted.{Counted}
use Rattle.tool_items.specs.declared.stats.RowOf.{RowOf}
use Rattle.tool_items.specs.declared.stats.RowOf.TheVariants as part
use Rattle.tool_names.specs.Table.{Row, table}
use Rattle.tool_names.specs.Names.{callee, encoding_at, field_name, format_name, formats_of, method_name}

abbrev pub tenths_text : ℕ → List ℕ
tenths_text tenths = decimal (tenths / 10) ++ codes "." ++ decimal (tenths % 10)

-- the nearest number of tenths to the bits over the items, the greater of two that are as near
abbrev pub tenths_near : ℕ → ℕ → ℕ
tenths_near bits items = (bits * 20 + items) / (items * 2)

-- the mean with one decimal; of no items there is none
abbrev pub mean_text : Tally → List ℕ
mean_text t = if nat_eq t.items 0 then codes "-" else tenths_text (tenths_near t.bits t.items)

abbrev pub head_line : Tally → List ℕ
head_line t = codes "items " ++ decimal t.items ++ codes " bits " ++ decimal t.bits ++ codes " mean " ++ mean_text t

abbrev pub heads : Row
heads = codes "format" ∷ codes "items" ∷ codes "bits" ∷ codes "mean" ∷ []

-- the cells of a row: its name after two blanks for each field that it stands in, how many items there are, their bits and the mean
abbrev pub cells_of : Counted → Row
cells_of r = (replicate r.depth 32 ++ replicate r.depth 32 ++ r.name) ∷ decimal r.tally.items ∷ decimal r.tally.bits ∷ mean_text r.tally ∷ []

abbrev pub cells_of_all : List Counted → List Row
cells_of_all rows = flat_map (λ r. cells_of r ∷ []) rows

-- the table of rows, below its heads
abbrev pub counted_table : List Counted → List ℕ
counted_table rows = table (heads ∷ cells_of_all rows)

abbrev pub row_of : ℕ → RowOf → List ℕ → Tally → Counted
row_of depth p name t = record { depth = depth; part = p; name = name; tally = t }

-- ---- what is inside a field

-- the rows of the formats of a method, by its number, how many fields they stand in, and the fillings inside
abbrev pub Inside : Type 0
Inside = ℕ → ℕ → List Filling → List Counted

-- those of the method that a field calls, if it calls one
abbrev pub called_rows : Inside → Option ℕ → ℕ → List Filling → List Counted
called_rows inside None depth fs = []
called_rows inside (Some k) depth fs = inside k depth fs

-- Of the field at a place, of this name: its row, where it has packed bits, and below it those inside, one field further in.
abbrev pub field_rows : Inside → List ℕ → Option ℕ → ℕ → ℕ → ℕ → List Filling → List Counted
field_rows inside name called depth n p fs =
    if nat_eq (tally_field n p fs).bits 0 then [] else row_of depth part.Field name (tally_field n p fs) ∷ called_rows inside called (depth + 1) (insides n p fs)

-- those of the listed fields of the format n of the method k, in the listing's order
abbrev pub listed_rows : Inside → List Method → ℕ → ℕ → ℕ → List ℕ → List Filling → List Counted
listed_rows inside methods k n depth listing fs =
    flat_map (λ (l : ℕ × ℕ). field_rows inside (field_name methods k n l.1) (callee (encoding_at methods k n l.1)) depth n l.0 fs) (enumerate_from 0 listing)

abbrev pub inner_name : List ℕ → List ℕ → List ℕ
inner_name method format = method ++ codes "." ++ format

-- Of a format of a called method: its row, named with the method, where a filling has it, and below it those of its fields, one further in.
abbrev pub inner_rows : Inside → List Method → ℕ → ℕ → ℕ → List ℕ → List Filling → List Counted
inner_rows inside methods k depth n listing fs =
    if nat_eq (tally_format n fs).items 0 then []
    else row_of depth part.Format (inner_name (method_name methods k) (format_name methods k n)) (tally_format n fs) ∷ listed_rows inside methods k n (depth + 1) listing fs

-- those of all formats of a called method, so many levels deep
abbrev pub rows_inside : ℕ → List Method → Inside
rows_inside zero methods k depth fs = []
rows_inside (suc d) methods k depth fs = flat_map (λ (f : ℕ × Format). inner_rows (rows_inside d methods) methods k depth f.0 f.1.listing fs) (enumerate_from 0 (formats_of methods k))

-- ---- the table

-- the row of a format of the top with this listing, and those of its listed fields
abbrev pub format_rows : Inside → List Method → ℕ → ℕ → List ℕ → List Filling → List Counted
format_rows inside methods top n listing fs = row_of 0 part.Format (format_name methods top n) (tally_format n fs) ∷ listed_rows inside methods top n 1 listing fs

abbrev pub formats_rows : Inside → List Method → ℕ → List Format → List Filling → List Counted
formats_rows inside methods top formats fs = flat_map (λ (f : ℕ × Format). format_rows inside methods top f.0 f.1.listing fs) (enumerate_from 0 formats)

-- The rows of each format of the top. What is inside is told as deep as the fillings are.
abbrev pub rows : List Method → ℕ → List Filling → List Counted
rows methods top fs = formats_rows (rows_inside (deepest fs) methods) methods top (formats_of methods top) fs

abbrev pub stats_text : List Method → ℕ → List Filling → List ℕ
stats_text methods top fs = head_line (tally fs) ++ counted_table (rows methods top fs)
