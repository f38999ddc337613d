use Rattle.std.proofs.Common.{◌≡◌, length}
use Rattle.tool_items.specs.Adding.{SamePlaces}
use Rattle.tool_items.proofs.sums.reach_places.Given as goal

abbrev pub invariant-loop-reached : goal.invariant-loop-reached
invariant-loop-reached l = SamePlaces l.fn.places.items l.places.items × (l.reached ≡ length l.places.items)
