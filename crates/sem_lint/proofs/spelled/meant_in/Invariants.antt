use Rattle.std.proofs.Common.{◌≡◌, drop}
use Rattle.sem_lint.specs.Spelled as spec
use Rattle.sem_lint.proofs.spelled.meant_in.Given as goal

abbrev pub invariant-loop-place : goal.invariant-loop-place
invariant-loop-place l = spec.meant_from l.place l.name (drop l.place l.fields) ≡ spec.meant_from 0 l.name l.fields
