use Rattle.std.specs.Prelude.{◌≡◌, ◌+◌, ◌^◌, ◌+ℤ◌, drop, pos}
use Rattle.tool_items.specs.Nearest.{within}
use Rattle.tool_items.specs.Steps.{counted}
use Rattle.tool_items.proofs.nearest.taken_from.Given as goal

abbrev pub invariant-loop-entry : goal.invariant-loop-entry
invariant-loop-entry l = (l.taken + counted (within l.first (2 ^ l.bits)) (drop l.entry-index l.entries) ≡ counted (within l.first (2 ^ l.bits)) l.entries) × (l.end ≡ l.first +ℤ pos (2 ^ l.bits))
