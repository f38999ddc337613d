use Rattle.sem_lint.specs.NeedsTold as told
use Rattle.sem_lint.proofs.needs.listed.Given as goal

abbrev pub invariant-loop-index : goal.invariant-loop-index
invariant-loop-index l = told.SoFar l.ground l.index 0 l.found
