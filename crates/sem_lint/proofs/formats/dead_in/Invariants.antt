use Rattle.sem_lint.specs.Listing as spec
use Rattle.sem_lint.proofs.formats.dead_in.Given as goal

abbrev pub invariant-loop-index : goal.invariant-loop-index
invariant-loop-index l = spec.SoFar l.judged l.index 0 l.found
