-- Tables of mentions, asked by name.
use Rattle.std.specs.Prelude.{◌≡◌, ℕ, List, Option, position, slice_get, option_and_then}
use Rattle.std.specs.Str.{bytes_eq}
use Rattle.text_sections.specs.declared.mention.Mention.{Mention}
use Rattle.text_sections.specs.declared.table.Table.{Table}
use Rattle.text_sections.specs.Mentions.{first_of, firsts, names_of}

abbrev pub find_in : Table → List ℕ → Option Mention
find_in table name = option_and_then (slice_get table.firsts) (position (bytes_eq name) table.words)

-- the table holds the first mention of each name, and finds it
pub record IsTable (text : List ℕ) (mentions : List Mention) (table : Table) : Type 0 where
  pub words_are : table.words ≡ names_of text table.firsts
  pub firsts_are : table.firsts ≡ firsts text mentions
  pub finds : (name : List ℕ) → find_in table name ≡ first_of text mentions name
