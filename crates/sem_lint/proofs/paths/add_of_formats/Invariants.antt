use Rattle.std.proofs.Common.{◌≡◌, ℕ, drop}
use Rattle.std.specs.Prelude.{◌||◌}
use Rattle.std.specs.List.{list_any}
use Rattle.sem_lint.specs.Paths as spec
use Rattle.sem_lint.proofs.paths.add_of_formats.Given as goal

abbrev pub invariant-loop-format : goal.invariant-loop-format
invariant-loop-format l =
    (m : ℕ) → (spec.has l.found m || list_any (spec.calls_in l.name m) (drop l.format-index l.formats)) ≡ (spec.has l.fn.found m || list_any (spec.calls_in l.name m) l.formats)
