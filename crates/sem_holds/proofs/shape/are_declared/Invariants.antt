use Rattle.std.proofs.Common.{◌≡◌}
use Rattle.std.specs.Prelude.{Some, slice_get}
use Rattle.sem_profile.specs.declared.profile.Field.{Field}
use Rattle.sem_filling.specs.Fillings.{sides_of}
use Rattle.sem_filling.proofs.Each.{Before}
use Rattle.sem_holds.proofs.shape.are_declared.Given as goal

abbrev pub invariant-loop-i : goal.invariant-loop-i
invariant-loop-i l = Before (λ j g. (d : Field) → slice_get l.fields j ≡ Some d → (sides_of g).declared ≡ d.declared) l.filled l.i
