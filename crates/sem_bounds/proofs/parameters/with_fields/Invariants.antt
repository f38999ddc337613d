use Rattle.std.proofs.Common.{◌≡◌, take, fold}
use Rattle.sem_profile.specs.Parameters as spec
use Rattle.sem_bounds.proofs.parameters.with_fields.Given as goal

abbrev pub invariant-loop-field : goal.invariant-loop-field
invariant-loop-field l = l.all ≡ fold (λ o d. spec.with_call l.ranges l.method o d.encoding) l.fn.found (take l.field-index l.format.fields)
