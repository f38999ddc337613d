use Rattle.std.proofs.Common.{◌≡◌, take}
use Rattle.sem_profile.specs.Parameters as spec
use Rattle.sem_bounds.proofs.parameters.with_arguments.Given as goal

abbrev pub invariant-loop-interval : goal.invariant-loop-interval
invariant-loop-interval l = l.next ≡ spec.with_arguments l.ranges l.arguments (take l.interval-index l.found)
