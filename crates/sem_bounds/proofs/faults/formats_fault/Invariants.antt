use Rattle.std.proofs.Common.{◌≡◌, take, None}
use Rattle.std.specs.Prelude.{slice_get}
use Rattle.sem_profile.specs.Precedence.{earlier}
use Rattle.sem_profile.specs.BoundsFaults.{sized_fault}
use Rattle.sem_profile.specs.Passes.{folded}
use Rattle.sem_bounds.proofs.faults.formats_fault.Given as goal

abbrev pub invariant-loop-format : goal.invariant-loop-format
invariant-loop-format l = (l.place ≡ l.format-index)
    × (l.found ≡ folded (λ n o format. earlier o (sized_fault l.extent l.sizes.parameters format (slice_get l.sizes.formats n))) 0 None (take l.format-index l.method.formats))
