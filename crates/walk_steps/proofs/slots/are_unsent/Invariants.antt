use Rattle.std.proofs.Common.{◌≡◌, false}
use Rattle.sem_profile.specs.Fields.{lists}
use Rattle.sem_filling.proofs.Each.{Before}
use Rattle.walk_steps.proofs.slots.are_unsent.Given as goal

abbrev pub invariant-loop-i : goal.invariant-loop-i
invariant-loop-i l = Before (λ j b. lists l.format.listing j ≡ false → b.compressed.least ≡ 0) l.sizes l.i
