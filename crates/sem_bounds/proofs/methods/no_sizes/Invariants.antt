use Rattle.std.proofs.Common.{◌≡◌, length}
use Rattle.sem_bounds.proofs.methods.no_sizes.Given as goal

abbrev pub invariant-loop : goal.invariant-loop
invariant-loop l = length l.table.items ≡ l.counter
