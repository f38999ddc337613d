use Rattle.std.proofs.Common.{◌≤◌}
use Rattle.text_sections.proofs.NamesOwn.{Counts}
use Rattle.text_sections.proofs.names.count_named.Given as goal

abbrev pub invariant-loop-item : goal.invariant-loop-item
invariant-loop-item l = Counts l.items l.item-index l.count × (l.count ≤ l.item-index)
