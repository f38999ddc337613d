use Rattle.std.proofs.Common.{◌≡◌, take, None}
use Rattle.std.specs.Prelude.{slice_get}
use Rattle.sem_profile.specs.Precedence.{earlier}
use Rattle.sem_profile.specs.BoundsFaults.{method_fault}
use Rattle.sem_profile.specs.Passes.{folded}
use Rattle.sem_bounds.proofs.faults.methods_fault.Given as goal

abbrev pub invariant-loop-method : goal.invariant-loop-method
invariant-loop-method l = (l.place ≡ l.method-index)
    × (l.found ≡ folded (λ i o m. earlier o (method_fault l.extent m (slice_get l.table i))) 0 None (take l.method-index l.methods))
