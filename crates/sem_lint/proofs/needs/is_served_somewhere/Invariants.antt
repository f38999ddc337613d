use Rattle.sem_lint.proofs.NeedsTelling.{NoneServed}
use Rattle.sem_lint.proofs.needs.is_served_somewhere.Given as goal

abbrev pub invariant-loop-place : goal.invariant-loop-place
invariant-loop-place l = NoneServed l.ground l.known.flags l.method l.format l.place
