use Rattle.sem_pages.specs.Made.{AreMade}
use Rattle.sem_pages.specs.Prepared.{HasComputed}
use Rattle.sem_pages.proofs.prepared.all_computed.Given as goal

abbrev pub invariant-loop-field : goal.invariant-loop-field
invariant-loop-field l = AreMade HasComputed l.fields l.all l.field-index
