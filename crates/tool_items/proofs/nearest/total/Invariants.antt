use Rattle.std.specs.Prelude.{◌≡◌, ◌+◌, drop}
use Rattle.tool_items.specs.Nearest.{every}
use Rattle.tool_items.specs.Steps.{counted}
use Rattle.tool_items.proofs.nearest.total.Given as goal

abbrev pub invariant-loop-entry : goal.invariant-loop-entry
invariant-loop-entry l = l.all + counted every (drop l.entry-index l.entries) ≡ counted every l.entries
