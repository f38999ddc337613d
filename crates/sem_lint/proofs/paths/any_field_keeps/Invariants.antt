use Rattle.std.proofs.Common.{◌≡◌, drop}
use Rattle.std.specs.List.{list_any}
use Rattle.sem_lint.specs.Paths as spec
use Rattle.sem_lint.proofs.paths.any_field_keeps.Given as goal

abbrev pub invariant-loop-field : goal.invariant-loop-field
invariant-loop-field l = list_any (spec.keeps_by l.name) (drop l.field-index l.fields) ≡ list_any (spec.keeps_by l.name) l.fields
