use Rattle.sem_pages.proofs.Leaving.{RestIs}
use Rattle.sem_pages.proofs.entries.has_asked.Given as goal

abbrev pub invariant-loop-i : goal.invariant-loop-i
invariant-loop-i l = RestIs l.fields l.shown l.values l.i l.place
