use Rattle.std.proofs.Common.{◌≡◌, ◌++◌, drop}
use Rattle.std.specs.Prelude.{flat_map}
use Rattle.std.specs.List.{enumerate_from}
use Rattle.sem_lint.specs.Unnoticed as spec
use Rattle.sem_lint.proofs.unnoticed.add_of_fields.Given as goal

abbrev pub invariant-loop-place : goal.invariant-loop-place
invariant-loop-place l = l.found ++ flat_map (λ d. spec.callee_of l.format d.0 d.1) (enumerate_from l.place (drop l.place l.format.fields)) ≡ l.fn.found ++ spec.callees_of l.format
