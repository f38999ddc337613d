use Rattle.std.proofs.Common.{◌≡◌, take}
use Rattle.sem_bounds.proofs.CallersRows.{so-far}
use Rattle.sem_bounds.proofs.callers.caller_table.Given as goal

abbrev pub invariant-loop-method : goal.invariant-loop-method
invariant-loop-method l = (l.place ≡ l.method-index) × (l.rows.items ≡ so-far l.methods (take l.method-index l.methods))
