use Rattle.sem_filling.proofs.Each.{Before}
use Rattle.sem_pages.specs.Pages.{IsUnsent}
use Rattle.sem_pages.proofs.sides.are_unsent.Given as goal

abbrev pub invariant-loop-i : goal.invariant-loop-i
invariant-loop-i l = Before (λ i s. IsUnsent l.listing i s) l.shown l.i
