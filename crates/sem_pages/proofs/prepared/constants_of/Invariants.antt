use Rattle.sem_pages.specs.Prepared.{HasConstant}
use Rattle.sem_pages.specs.Made.{AreMade}
use Rattle.sem_pages.proofs.prepared.constants_of.Given as goal

abbrev pub invariant-loop-field : goal.invariant-loop-field
invariant-loop-field l = AreMade HasConstant l.fields l.constants l.field-index
