use Rattle.std.specs.Prelude.{◌≡◌, ◌++◌, drop, flat_map, string_bytes}
use Rattle.tool_items.specs.StatsObjects.{all_line, row_line}
use Rattle.tool_items.proofs.stats_objects.counted_objects.Given as goal

abbrev pub invariant-loop-row : goal.invariant-loop-row
invariant-loop-row l = string_bytes l.output ++ flat_map row_line (drop l.row-index l.rows) ≡ all_line l.fn.all ++ flat_map row_line l.rows
