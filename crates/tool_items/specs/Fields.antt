-- What `fields` prints of a filling: a head line, and a table of its fields (docs/FORMATS.md).
use Rattle.std.specs.Prelude.{ℕ, Bool, List, [], ◌∷◌, ◌++◌, Option, None, Some, codes, decimal, flat_map, option_map}
use Rattle.std.specs.List.{enumerate_from}
use Rattle.sem_filling.specs.declared.filling.Filling.{Filling, out-Filling}
use Rattle.sem_filling.specs.declared.filling.FilledField.TheOpen.{FilledField-F, Filling-F}
use Rattle.sem_filling.specs.declared.filling.FilledField.TheFolds.{fold-Filling}
use Rattle.sem_profile.specs.declared.profile.Declared.{Declared}
use Rattle.sem_profile.specs.declared.profile.Encoding.{Encoding}
use Rattle.sem_profile.specs.declared.profile.Encoding.TheVariants as encoding
use Rattle.sem_profile.specs.declared.profile.Library.{Library}
use Rattle.sem_profile.specs.declared.profile.Library.TheVariants.{UncompressedValue, CompressedValue, Irregular, Static, Lsb, Crc}
use Rattle.sem_profile.specs.declared.profile.Method.{Method}
use Rattle.sem_profile.specs.declared.profile.Part.{Part}
use Rattle.sem_profile.specs.declared.profile.Part.TheVariants.{Header, Control, Local}
use Rattle.tool_input.specs.BitTexts.{bits_text}
use Rattle.tool_names.specs.Table.{Row, table}
use Rattle.tool_names.specs.Names.{callee, encoding_at, format_name, method_name}
use Rattle.tool_names.specs.CheckFaults.{format_words}

abbrev pub part_word : Part → List ℕ
part_word Header = codes "header"
part_word Control = codes "control"
part_word Local = codes "local"

-- a library method by its name
abbrev pub library_word : Library → List ℕ
library_word (UncompressedValue length value) = codes "uncompressed_value"
library_word (CompressedValue length value) = codes "compressed_value"
library_word (Irregular length) = codes "irregular"
library_word Static = codes "static"
library_word (Lsb bits offset) = codes "lsb"
library_word (Crc arguments) = codes "crc"

-- what encodes a field: a library method; a method of the profile with the format of the filling inside, after a point; - where nothing does
abbrev pub method_word : List Method → Option Encoding → Option ℕ → List ℕ
method_word methods None inside = codes "-"
method_word methods (Some encoding.Bare) inside = codes "-"
method_word methods (Some (encoding.Library method)) inside = library_word method
method_word methods (Some (encoding.Call k arguments)) inside = method_name methods k ++ format_words methods k inside

-- the row of a field: its name after some blanks, its part, both sides and what encodes it
abbrev pub field_row : List Method → Option Encoding → List ℕ → Declared → List Bool → List Bool → Option ℕ → Row
field_row methods encoding indent declared uncompressed compressed inside =
    (indent ++ declared.name) ∷ part_word declared.part ∷ bits_text uncompressed ∷ bits_text compressed ∷ method_word methods encoding inside ∷ []

-- what is listed of a filling: the number of its format; and its rows, by the number of its method and by the blanks before its fields' names
pub record Listed : Type 0 where
  pub format : ℕ
  pub rows : ℕ → List ℕ → List Row

-- of the filling inside a field, where that calls a method: its rows, whose names stand two blanks further in
abbrev pub inner_rows : Option ℕ → List ℕ → Option Listed → List Row
inner_rows None indent inside = []
inner_rows (Some k) indent None = []
inner_rows (Some k) indent (Some listed) = listed.rows k (indent ++ codes "  ")

-- a field's own row, and then those of the filling inside it
abbrev pub field_rows : List Method → FilledField-F (Option Encoding → List ℕ → List Row) Listed → Option Encoding → List ℕ → List Row
field_rows methods g encoding indent =
    field_row methods encoding indent g.declared g.uncompressed g.compressed (option_map (λ l. l.format) g.inner)
    ∷ inner_rows (callee encoding) indent g.inner

-- those of its fields, in field order
abbrev pub level_rows : List Method → Filling-F (Option Encoding → List ℕ → List Row) Listed → Listed
level_rows methods f = record {
  format = f.format;
  rows = λ k indent. flat_map (λ p. p.1 (encoding_at methods k f.format p.0) indent) (enumerate_from 0 f.fields);
}

abbrev pub listed : List Method → Filling → Listed
listed methods = fold-Filling (Option Encoding → List ℕ → List Row) Listed (field_rows methods) (level_rows methods)

-- the rows of a filling of a method
abbrev pub rows_of : List Method → ℕ → Filling → List Row
rows_of methods k f = (listed methods f).rows k []

-- the head line: what it is of, its number, the format and how many bits the packet has
abbrev pub head_text : List ℕ → ℕ → List ℕ → ℕ → List ℕ
head_text what number format bits = what ++ codes " " ++ decimal number ++ codes " " ++ format ++ codes " " ++ decimal bits ++ codes " bits"

-- a filling of the top: the head line and the table
abbrev pub fields_text : List Method → ℕ → List ℕ → ℕ → ℕ → Filling → List ℕ
fields_text methods top what number bits f = head_text what number (format_name methods top (out-Filling f).format) bits ++ table (rows_of methods top f)
