use Rattle.tool_items.proofs.NearestShares.{NoFewer}
use Rattle.tool_items.proofs.nearest.least_near.Given as goal

abbrev pub invariant-loop-bits : goal.invariant-loop-bits
invariant-loop-bits l = NoFewer l.share l.entries.items l.bits
