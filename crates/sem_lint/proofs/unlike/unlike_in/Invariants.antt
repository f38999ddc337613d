use Rattle.std.proofs.Common.{◌≡◌, drop}
use Rattle.sem_lint.specs.Unlike as spec
use Rattle.sem_lint.proofs.unlike.unlike_in.Given as goal

abbrev pub invariant-loop-place : goal.invariant-loop-place
invariant-loop-place l = spec.unlike_fields l.method l.formats l.number l.place (drop l.place l.fields) ≡ spec.unlike_fields l.method l.formats l.number 0 l.fields
