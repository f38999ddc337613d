use Rattle.std.proofs.Common.{◌≡◌, drop}
use Rattle.sem_lint.specs.Paths as spec
use Rattle.sem_lint.proofs.paths.is_there.Given as goal

abbrev pub invariant-loop-known : goal.invariant-loop-known
invariant-loop-known l = spec.has (drop l.known-index l.found) l.method ≡ spec.has l.found l.method
