-- What `stats` counts, as objects of JSON (docs/FORMATS.md, JSON lines): of the same rows as its table.
use Rattle.std.specs.Prelude.{ℕ, List, ◌++◌, codes, flat_map, nat_eq, if◌then◌else◌}
use Rattle.json.specs.Token.{Token}
use Rattle.sem_filling.specs.declared.filling.Filling.{Filling}
use Rattle.sem_profile.specs.declared.profile.Method.{Method}
use Rattle.tool_items.specs.declared.counts.Tally.{Tally}
use Rattle.tool_items.specs.Counts.{tally}
use Rattle.tool_items.specs.Counted.{Counted}
use Rattle.tool_items.specs.Stats.{mean_text, rows}
use Rattle.tool_items.specs.declared.stats.RowOf.{RowOf}
use Rattle.tool_items.specs.declared.stats.RowOf.TheVariants as part
use Rattle.tool_names.specs.Objects.{figure, line, null_member, number, opened, text}

-- the mean with one decimal; of no items there is none
abbrev pub mean_member : Tally → List Token
mean_member t = if nat_eq t.items 0 then null_member (codes "mean") else figure (codes "mean") (mean_text t)

abbrev pub tally_members : Tally → List Token
tally_members t = number (codes "items") t.items ++ number (codes "bits") t.bits ++ mean_member t

-- of all items
abbrev pub all_line : Tally → List ℕ
all_line t = line (opened ++ text (codes "kind") (codes "all") ++ tally_members t)

abbrev pub part_word : RowOf → List ℕ
part_word part.Format = codes "format"
part_word part.Field = codes "field"

-- of a row
abbrev pub row_line : Counted → List ℕ
row_line r = line (opened ++ text (codes "kind") (part_word r.part) ++ number (codes "depth") r.depth ++ text (codes "name") r.name ++ tally_members r.tally)

abbrev pub counted_objects : Tally → List Counted → List ℕ
counted_objects all rs = all_line all ++ flat_map row_line rs

abbrev pub stats_objects : List Method → ℕ → List Filling → List ℕ
stats_objects methods top fs = counted_objects (tally fs) (rows methods top fs)

-- of an item that is packed, by its number, its format and the bits of its packet
abbrev pub item_tokens : ℕ → List ℕ → ℕ → List Token
item_tokens n format bits = opened ++ text (codes "kind") (codes "item") ++ number (codes "number") n ++ text (codes "format") format ++ number (codes "bits") bits

abbrev pub item_line : ℕ → List ℕ → ℕ → List ℕ
item_line n format bits = line (item_tokens n format bits)
