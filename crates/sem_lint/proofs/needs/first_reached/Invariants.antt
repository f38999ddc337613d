use Rattle.sem_lint.proofs.NeedsTelling.{NoneReached}
use Rattle.sem_lint.proofs.needs.first_reached.Given as goal

abbrev pub invariant-loop-place : goal.invariant-loop-place
invariant-loop-place l = NoneReached l.ground l.known.flags l.method l.place
