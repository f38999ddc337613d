use Rattle.std.proofs.Common.{◌≡◌}
use Rattle.walk_pages.specs.Drafts.{IsRight}
use Rattle.walk_pages.proofs.methods.read_top.Given as goal

abbrev pub invariant-loop-operation : goal.invariant-loop-operation
invariant-loop-operation l = IsRight l.frame l.draft × (l.draft.format.now ≡ l.start.format.now) × (l.draft.arguments.now ≡ l.frame.arguments.now) × (l.draft.told.prepared.now ≡ l.start.told.prepared.now)
