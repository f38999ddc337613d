use Rattle.std.proofs.Common.{◌≡◌, ◌++◌, drop, map}
use Rattle.std.specs.List.{enumerate_from}
use Rattle.sem_lint.specs.Unnoticed as spec
use Rattle.sem_lint.proofs.unnoticed.graph_of.Given as goal

abbrev pub invariant-loop-index : goal.invariant-loop-index
invariant-loop-index l = l.graph ++ map (λ m. spec.callees l.dead m.0 m.1) (enumerate_from l.index (drop l.index l.methods)) ≡ spec.graph_of l.dead l.methods
