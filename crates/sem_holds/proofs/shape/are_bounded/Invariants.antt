use Rattle.sem_filling.specs.Fillings.{sides_of}
use Rattle.sem_filling.specs.Level.{FieldLies}
use Rattle.sem_filling.proofs.Each.{Before}
use Rattle.sem_holds.proofs.shape.are_bounded.Given as goal

abbrev pub invariant-loop-i : goal.invariant-loop-i
invariant-loop-i l = Before (λ j g. FieldLies l.sizes j (sides_of g)) l.filled l.i
