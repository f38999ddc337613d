use Rattle.std.proofs.Common.{◌≡◌, take, map}
use Rattle.sem_profile.specs.Ranging as spec
use Rattle.sem_bounds.proofs.ranges.fields_ranges.Given as goal

abbrev pub invariant-loop-size : goal.invariant-loop-size
invariant-loop-size l = l.ranges.items ≡ map spec.side_ranges (take l.size-index l.sizes)
