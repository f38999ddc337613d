use Rattle.walk_session.specs.Pages.{AreSame}
use Rattle.walk_session.proofs.pages.fill_up.Given as goal

abbrev pub invariant-loop-i : goal.invariant-loop-i
invariant-loop-i l = AreSame l.fn.pages.items l.pages.items
