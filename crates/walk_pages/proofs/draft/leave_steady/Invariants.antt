use Rattle.walk_pages.proofs.Leaving.{AreLeftTo}
use Rattle.walk_pages.proofs.draft.leave_steady.Given as goal

abbrev pub invariant-loop-i : goal.invariant-loop-i
invariant-loop-i l = AreLeftTo l.methods l.fields l.fn.shown l.shown l.i
