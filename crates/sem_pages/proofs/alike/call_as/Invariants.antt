use Rattle.std.specs.Prelude.{slice_get}
use Rattle.sem_filling.proofs.Each.{Before}
use Rattle.sem_pages.specs.Alike.{CallsAs}
use Rattle.sem_pages.proofs.alike.call_as.Given as goal

abbrev pub invariant-loop-i : goal.invariant-loop-i
invariant-loop-i l = Before (λ i d. CallsAs d (slice_get l.others i)) l.fields l.i
