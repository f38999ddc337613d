use Rattle.sem_lint.specs.NeedsTold as told
use Rattle.sem_lint.proofs.needs.dead_row.Given as goal

abbrev pub invariant-loop-format : goal.invariant-loop-format
invariant-loop-format l = told.TellsRow l.judged l.index l.format l.row
