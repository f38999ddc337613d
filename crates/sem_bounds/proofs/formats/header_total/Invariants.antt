use Rattle.std.proofs.Common.{◌≡◌, take}
use Rattle.sem_profile.specs.Formats as spec
use Rattle.sem_profile.specs.Passes.{indexed}
use Rattle.sem_bounds.proofs.formats.header_total.Given as goal

abbrev pub invariant-loop-field : goal.invariant-loop-field
invariant-loop-field l = (l.place ≡ l.field-index) × (l.sum ≡ spec.total (indexed (spec.header_bounds l.sizes) 0 (take l.field-index l.fields)))
