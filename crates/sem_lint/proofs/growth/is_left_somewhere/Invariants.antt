use Rattle.sem_lint.proofs.NeedsGrowing.{NoneLeft}
use Rattle.sem_lint.proofs.growth.is_left_somewhere.Given as goal

abbrev pub invariant-loop-place : goal.invariant-loop-place
invariant-loop-place l = NoneLeft l.ground l.flags l.path l.name l.place
