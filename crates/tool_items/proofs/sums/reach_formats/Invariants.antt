use Rattle.std.proofs.Common.{◌≡◌, length}
use Rattle.tool_items.specs.Adding.{SameFormats}
use Rattle.tool_items.proofs.sums.reach_formats.Given as goal

abbrev pub invariant-loop-reached : goal.invariant-loop-reached
invariant-loop-reached l = SameFormats l.fn.formats.items l.formats.items × (l.reached ≡ length l.formats.items)
