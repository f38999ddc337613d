use Rattle.std.proofs.Common.{◌≡◌, ℕ, drop}
use Rattle.std.specs.Prelude.{◌||◌}
use Rattle.std.specs.List.{list_any}
use Rattle.sem_lint.specs.Paths as spec
use Rattle.sem_lint.proofs.paths.add_of_fields.Given as goal

abbrev pub invariant-loop-field : goal.invariant-loop-field
invariant-loop-field l =
    (m : ℕ) → (spec.has l.found m || list_any (spec.calls_by l.name m) (drop l.field-index l.fields)) ≡ (spec.has l.fn.found m || list_any (spec.calls_by l.name m) l.fields)
