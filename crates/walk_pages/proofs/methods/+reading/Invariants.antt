use Rattle.std.proofs.Common.{◌≡◌, ◌+◌, ◌*◌}
use Rattle.walk_pages.specs.Drafts.{IsRight}
use Rattle.walk_pages.proofs.methods.+reading.Given as goal

abbrev pub decreases-read_inside : goal.decreases-read_inside
decreases-read_inside l = 5 * l.depth

abbrev pub decreases-called : goal.decreases-called
decreases-called l = 5 * l.depth + 1

abbrev pub decreases-call : goal.decreases-call
decreases-call l = 5 * l.depth + 2

abbrev pub decreases-step : goal.decreases-step
decreases-step l = 5 * l.depth + 3

abbrev pub decreases-read_method : goal.decreases-read_method
decreases-read_method l = 5 * l.depth + 4

abbrev pub invariant-read_method-loop-operation : goal.invariant-read_method-loop-operation
invariant-read_method-loop-operation l = (l.depth ≡ l.fn.depth) × IsRight l.frame l.draft × (l.draft.format.now ≡ l.start.format.now) × (l.draft.arguments.now ≡ l.frame.arguments.now) × (l.draft.told.prepared.now ≡ l.start.told.prepared.now)
