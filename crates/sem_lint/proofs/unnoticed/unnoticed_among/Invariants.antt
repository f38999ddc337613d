use Rattle.std.proofs.Common.{◌≡◌, ◌++◌, drop}
use Rattle.std.specs.Prelude.{flat_map}
use Rattle.std.specs.List.{enumerate_from}
use Rattle.sem_lint.specs.Unnoticed as spec
use Rattle.sem_lint.proofs.unnoticed.unnoticed_among.Given as goal

abbrev pub invariant-loop-index : goal.invariant-loop-index
invariant-loop-index l =
    l.found ++ flat_map (λ m. spec.unnoticed_method l.dead (spec.loose_by l.loose.reached.now l.loose.own.now) (spec.open_by l.loose.reached.now l.top) m.0 m.1) (enumerate_from l.index (drop l.index l.methods))
    ≡ spec.unnoticed_among l.methods l.dead (spec.loose_by l.loose.reached.now l.loose.own.now) (spec.open_by l.loose.reached.now l.top)
