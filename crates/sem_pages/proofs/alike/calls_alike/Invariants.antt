use Rattle.sem_filling.proofs.Each.{Before}
use Rattle.sem_pages.specs.Alike.{AreFormatsAlike}
use Rattle.sem_pages.proofs.alike.calls_alike.Given as goal

abbrev pub invariant-loop-method : goal.invariant-loop-method
invariant-loop-method l = Before (λ k m. AreFormatsAlike m.formats) l.methods l.method-index
