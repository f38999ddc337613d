use Rattle.sem_lint.proofs.NeedsTelling.{RowsSoFar}
use Rattle.sem_lint.proofs.needs.dead_rows.Given as goal

abbrev pub invariant-loop-index : goal.invariant-loop-index
invariant-loop-index l = RowsSoFar l.judged l.index l.all
