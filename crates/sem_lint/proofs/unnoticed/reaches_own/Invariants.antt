use Rattle.std.proofs.Common.{◌≡◌, drop}
use Rattle.std.specs.Prelude.{◌&&◌}
use Rattle.sem_graph.specs.Order.{is_marked}
use Rattle.sem_lint.specs.Unnoticed as spec
use Rattle.sem_lint.proofs.unnoticed.reaches_own.Given as goal

abbrev pub invariant-loop-index : goal.invariant-loop-index
invariant-loop-index l = spec.any_place (λ j is. is && is_marked l.loose.reached.now l.method j) l.index (drop l.index l.loose.own.now) ≡ spec.reaches_own l.loose.reached.now l.loose.own.now l.method
