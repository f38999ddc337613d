use Rattle.std.proofs.Common.{◌≡◌, drop}
use Rattle.sem_lint.specs.Unlike as spec
use Rattle.sem_lint.proofs.unlike.first_unlike.Given as goal

abbrev pub invariant-loop-number : goal.invariant-loop-number
invariant-loop-number l = spec.unlike_formats l.method l.formats l.number (drop l.number l.formats) ≡ spec.unlike_formats l.method l.formats 0 l.formats
