use Rattle.sem_context.specs.Entries.{bits_at}
use Rattle.sem_elsewhere.specs.Uses.{Serves}
use Rattle.sem_filling.proofs.Each.{Before}
use Rattle.walk_loss.proofs.unserved.first_unserved.Given as goal

abbrev pub invariant-loop-i : goal.invariant-loop-i
invariant-loop-i l = Before (λ j u. Serves (bits_at l.context) u) l.uses l.i
