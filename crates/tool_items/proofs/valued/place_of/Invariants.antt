use Rattle.std.specs.Prelude.{drop}
use Rattle.tool_items.specs.Values.{IsKeptNowhere}
use Rattle.tool_items.proofs.valued.place_of.Given as goal

abbrev pub invariant-loop-place : goal.invariant-loop-place
invariant-loop-place l = IsKeptNowhere l.value (drop l.place l.kept) → IsKeptNowhere l.value l.kept
