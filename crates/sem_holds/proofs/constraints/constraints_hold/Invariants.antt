use Rattle.sem_expr.specs.Known.{assignment_of}
use Rattle.sem_filling.specs.Fillings.{level, listing_of}
use Rattle.sem_filling.specs.Fits.{Holds, side_of}
use Rattle.sem_filling.proofs.Each.{Before}
use Rattle.sem_holds.proofs.constraints.constraints_hold.Given as goal

abbrev pub invariant-loop-constraint : goal.invariant-loop-constraint
invariant-loop-constraint l = Before (λ j. Holds (side_of (listing_of l.filling) (level l.filling)) (assignment_of l.known)) l.constraints l.constraint-index
