use Rattle.std.proofs.Common.{◌≡◌, ◌++◌, drop, map}
use Rattle.std.specs.List.{enumerate_from}
use Rattle.sem_lint.specs.Unnoticed as spec
use Rattle.sem_lint.proofs.unnoticed.own_of.Given as goal

abbrev pub invariant-loop-index : goal.invariant-loop-index
invariant-loop-index l = l.own ++ map (λ m. spec.refers_in l.dead m.0 m.1.formats) (enumerate_from l.index (drop l.index l.methods)) ≡ spec.own_of l.dead l.methods
