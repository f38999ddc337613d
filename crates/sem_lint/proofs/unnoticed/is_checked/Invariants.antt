use Rattle.std.proofs.Common.{◌≡◌, drop}
use Rattle.sem_lint.specs.Unnoticed as spec
use Rattle.sem_lint.proofs.unnoticed.is_checked.Given as goal

abbrev pub invariant-loop-field : goal.invariant-loop-field
invariant-loop-field l = spec.is_checked (record l.format { fields = drop l.field-index l.field-items }) l.place ≡ spec.is_checked l.format l.place
