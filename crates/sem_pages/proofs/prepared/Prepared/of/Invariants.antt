use Rattle.sem_pages.specs.Prepared.{AreCovered}
use Rattle.sem_pages.proofs.prepared.Prepared.of.Given as goal

abbrev pub invariant-loop-j : goal.invariant-loop-j
invariant-loop-j l = AreCovered l.fields l.constraints l.tests.lengths l.tests.others l.j
