use Rattle.std.proofs.Common.{◌≡◌, ℕ, drop}
use Rattle.std.specs.Prelude.{◌||◌}
use Rattle.std.specs.List.{list_any}
use Rattle.sem_lint.specs.Paths as spec
use Rattle.sem_lint.proofs.paths.called_from.Given as goal

abbrev pub invariant-loop-method : goal.invariant-loop-method
invariant-loop-method l =
    (m : ℕ) → (spec.has l.found m || list_any (λ k. spec.calls l.methods k l.name m) (drop l.method-index l.reached)) ≡ spec.any_calls l.methods l.reached l.name m
