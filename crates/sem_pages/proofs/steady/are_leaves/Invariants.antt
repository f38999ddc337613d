use Rattle.sem_filling.proofs.Each.{Before}
use Rattle.sem_pages.specs.Steady.{IsLeaf}
use Rattle.sem_pages.proofs.steady.are_leaves.Given as goal

abbrev pub invariant-loop-field : goal.invariant-loop-field
invariant-loop-field l = Before (λ i d. IsLeaf d) l.fields l.field-index
