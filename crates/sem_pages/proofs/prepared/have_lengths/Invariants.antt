use Rattle.sem_filling.proofs.Each.{Before}
use Rattle.sem_pages.specs.Prepared.{Passes}
use Rattle.sem_pages.proofs.prepared.have_lengths.Given as goal

abbrev pub invariant-loop-test : goal.invariant-loop-test
invariant-loop-test l = Before (λ m t. Passes l.view t) l.tests l.test-index
