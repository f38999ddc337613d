use Rattle.tool_items.specs.Sums.{row_of}
use Rattle.tool_items.proofs.SumsPlacing.{PlacesSoFar}
use Rattle.tool_items.proofs.sums.+adding.Given as goal

abbrev pub invariant-add_to_format-loop-place : goal.invariant-add_to_format-loop-place
invariant-add_to_format-loop-place l = PlacesSoFar l.filling (row_of l.fn.format) l.place (row_of l.format)
