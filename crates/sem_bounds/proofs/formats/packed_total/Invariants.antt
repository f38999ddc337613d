use Rattle.std.proofs.Common.{◌≡◌, take, map}
use Rattle.sem_profile.specs.Formats as spec
use Rattle.sem_bounds.proofs.formats.packed_total.Given as goal

abbrev pub invariant-loop-listed : goal.invariant-loop-listed
invariant-loop-listed l = l.sum ≡ spec.total (map (λ i. (spec.sizes_at l.sizes i).compressed) (take l.listed-index l.listing))
