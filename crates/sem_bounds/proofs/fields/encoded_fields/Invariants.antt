use Rattle.std.proofs.Common.{◌≡◌, take}
use Rattle.sem_profile.specs.Fields as spec
use Rattle.sem_profile.specs.Passes.{indexed}
use Rattle.sem_bounds.proofs.fields.encoded_fields.Given as goal

abbrev pub invariant-loop-field : goal.invariant-loop-field
invariant-loop-field l = l.sizes.items ≡ indexed (spec.encoded_sizes l.methods l.format) 0 (take l.field-index l.format.fields)
