use Rattle.sem_lint.specs.Listing as spec
use Rattle.sem_lint.proofs.formats.add_method.Given as goal

abbrev pub invariant-loop-format : goal.invariant-loop-format
invariant-loop-format l = spec.SoFar l.judged l.index 0 l.fn.found → spec.SoFar l.judged l.index l.format l.found
