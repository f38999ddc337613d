use Rattle.std.proofs.Common.{◌≡◌, drop}
use Rattle.sem_lint.specs.Unnoticed as spec
use Rattle.sem_lint.proofs.unnoticed.refers_in.Given as goal

abbrev pub invariant-loop-number : goal.invariant-loop-number
invariant-loop-number l = spec.any_place (spec.refers_by l.dead l.method) l.number (drop l.number l.formats) ≡ spec.refers_in l.dead l.method l.formats
