use Rattle.sem_filling.proofs.Each.{Before}
use Rattle.walk_pages.specs.Drafts.{IsSettled}
use Rattle.walk_pages.proofs.ends.others_hold.Given as goal

abbrev pub invariant-loop-index : goal.invariant-loop-index
invariant-loop-index l = Before (λ m. IsSettled l.view l.constraints l.solved) l.others l.index-index
