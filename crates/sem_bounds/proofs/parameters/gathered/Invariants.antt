use Rattle.std.proofs.Common.{◌≡◌, take, fold}
use Rattle.sem_bounds.proofs.CallersRows.{given-by}
use Rattle.sem_bounds.proofs.parameters.gathered.Given as goal

abbrev pub invariant-loop-place : goal.invariant-loop-place
invariant-loop-place l = l.all ≡ fold (given-by l.methods l.table l.method) l.fn.found (take l.place-index l.callers)
