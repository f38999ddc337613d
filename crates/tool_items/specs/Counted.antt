-- A row of what `stats` counts (docs/FORMATS.md).
use Rattle.std.specs.Prelude.{ℕ, List}
use Rattle.tool_items.specs.declared.counts.Tally.{Tally}
use Rattle.tool_items.specs.declared.stats.RowOf.{RowOf}

-- how many fields it stands in; whether it is of a format or a field; its name; and what is counted
pub record Counted : Type 0 where
  pub depth : ℕ
  pub part : RowOf
  pub name : List ℕ
  pub tally : Tally
