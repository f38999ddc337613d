use Rattle.std.proofs.Common.{◌≡◌, take, map, None}
use Rattle.sem_bounds.proofs.parameters.unknown.Given as goal

abbrev pub invariant-loop : goal.invariant-loop
invariant-loop l = l.found ≡ map (λ p. None) (take l.index l.parameters)
