use Rattle.std.proofs.Common.{◌≡◌, take}
use Rattle.sem_profile.specs.BoundsFaults as spec
use Rattle.sem_bounds.proofs.faults.constraints_fault.Given as goal

abbrev pub invariant-loop-constraint : goal.invariant-loop-constraint
invariant-loop-constraint l = l.found ≡ spec.earliest (spec.constraint_fault l.extent l.format l.sizes l.ranges) (take l.constraint-index l.format.constraints)
