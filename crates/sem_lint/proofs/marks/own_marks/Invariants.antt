use Rattle.sem_lint.proofs.MarksLifeless.{RowsSoFar}
use Rattle.sem_lint.proofs.marks.own_marks.Given as goal

abbrev pub invariant-loop-index : goal.invariant-loop-index
invariant-loop-index l = RowsSoFar l.profile l.index l.rows
