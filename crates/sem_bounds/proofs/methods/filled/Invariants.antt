use Rattle.sem_profile.specs.Methods.{SizedBefore}
use Rattle.sem_bounds.proofs.methods.filled.Given as goal

abbrev pub invariant-loop-index : goal.invariant-loop-index
invariant-loop-index l = SizedBefore l.methods l.order l.index-index l.table.items
