use Rattle.std.proofs.Common.{◌≡◌, take, map, []}
use Rattle.sem_bounds.proofs.callers.no_callers.Given as goal

abbrev pub invariant-loop : goal.invariant-loop
invariant-loop l = l.rows.items ≡ map (λ m. []) (take l.index l.methods)
