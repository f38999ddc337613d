use Rattle.std.proofs.Common.{◌≡◌, take}
use Rattle.std.specs.Prelude.{None}
use Rattle.sem_profile.specs.BoundsFaults.{earliest, encoding_fault}
use Rattle.sem_bounds.specs.Glance.{judge}
use Rattle.sem_bounds.proofs.glance.fields_quiet.Given as goal

abbrev pub invariant-loop-field : goal.invariant-loop-field
invariant-loop-field l = earliest (λ d. encoding_fault (judge l.sizes l.parameters l.format) d.encoding) (take l.field-index l.format.fields) ≡ None
