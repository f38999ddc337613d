use Rattle.std.proofs.Common.{◌≡◌, take}
use Rattle.sem_profile.specs.BoundsFaults as spec
use Rattle.sem_bounds.proofs.faults.fields_fault.Given as goal

abbrev pub invariant-loop-field : goal.invariant-loop-field
invariant-loop-field l = l.found ≡ spec.earliest (λ d. spec.encoding_fault (spec.expr_fault l.extent l.format l.sizes l.ranges) d.encoding) (take l.field-index l.format.fields)
