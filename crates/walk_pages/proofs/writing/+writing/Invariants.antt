use Rattle.std.proofs.Common.{◌≡◌, ◌+◌, ◌*◌}
use Rattle.walk_pages.specs.Drafts.{IsRight}
use Rattle.walk_pages.proofs.writing.+writing.Given as goal

abbrev pub decreases-write_inside : goal.decreases-write_inside
decreases-write_inside l = 5 * l.depth

abbrev pub decreases-called : goal.decreases-called
decreases-called l = 5 * l.depth + 1

abbrev pub decreases-call : goal.decreases-call
decreases-call l = 5 * l.depth + 2

abbrev pub decreases-step : goal.decreases-step
decreases-step l = 5 * l.depth + 3

abbrev pub decreases-write_method : goal.decreases-write_method
decreases-write_method l = 5 * l.depth + 4

abbrev pub invariant-write_method-loop-operation : goal.invariant-write_method-loop-operation
invariant-write_method-loop-operation l = (l.depth ≡ l.fn.depth) × IsRight l.frame l.draft × (l.draft.format.now ≡ l.start.format.now) × (l.draft.arguments.now ≡ l.frame.arguments.now) × (l.draft.told.prepared.now ≡ l.start.told.prepared.now)
