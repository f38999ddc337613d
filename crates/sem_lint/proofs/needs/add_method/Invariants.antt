use Rattle.sem_lint.specs.NeedsTold as told
use Rattle.sem_lint.proofs.needs.add_method.Given as goal

abbrev pub invariant-loop-number : goal.invariant-loop-number
invariant-loop-number l = told.SoFar l.ground l.index 0 l.fn.found → told.SoFar l.ground l.index l.number l.found
