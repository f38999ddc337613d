use Rattle.std.proofs.Common.{◌≡◌, take, fold}
use Rattle.sem_profile.specs.Fields as spec
use Rattle.sem_profile.specs.Passes.{indexed, narrow}
use Rattle.sem_bounds.proofs.fields.fields_sizes.Given as goal

abbrev pub invariant-loop-constraint : goal.invariant-loop-constraint
invariant-loop-constraint l = l.sizes ≡ fold narrow (indexed (spec.encoded_sizes l.methods l.format) 0 l.format.fields) (take l.constraint-index l.format.constraints)
