use Rattle.std.proofs.Common.{◌≡◌, ◌++◌, drop}
use Rattle.std.specs.Prelude.{flat_map}
use Rattle.std.specs.List.{enumerate_from}
use Rattle.sem_lint.specs.Unlike as spec
use Rattle.sem_lint.proofs.unlike.unlike_calls.Given as goal

abbrev pub invariant-loop-index : goal.invariant-loop-index
invariant-loop-index l = l.found ++ flat_map (λ m. spec.unlike_method m.0 m.1) (enumerate_from l.index (drop l.index l.methods)) ≡ spec.unlike_calls l.methods
