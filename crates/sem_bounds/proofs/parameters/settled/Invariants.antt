use Rattle.std.proofs.Common.{◌≡◌, take, map}
use Rattle.std.specs.Option.{unwrap_or}
use Rattle.sem_bounds.proofs.parameters.settled.Given as goal

abbrev pub invariant-loop-interval : goal.invariant-loop-interval
invariant-loop-interval l = l.ranges ≡ map (λ o. unwrap_or o l.none) (take l.interval-index l.found)
