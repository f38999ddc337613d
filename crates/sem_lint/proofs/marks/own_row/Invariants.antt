use Rattle.sem_lint.proofs.MarksLifeless.{RowSoFar}
use Rattle.sem_lint.proofs.marks.own_row.Given as goal

abbrev pub invariant-loop-format : goal.invariant-loop-format
invariant-loop-format l = RowSoFar l.profile l.index l.format l.row
