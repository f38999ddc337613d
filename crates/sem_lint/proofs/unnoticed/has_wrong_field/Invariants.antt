use Rattle.std.proofs.Common.{◌≡◌, drop}
use Rattle.sem_lint.specs.Unnoticed as spec
use Rattle.sem_lint.proofs.unnoticed.has_wrong_field.Given as goal

abbrev pub invariant-loop-place : goal.invariant-loop-place
invariant-loop-place l =
    spec.any_place (spec.is_wrong_field (spec.loose_by l.loose.reached.now l.loose.own.now) l.format) l.place (drop l.place l.format.fields)
    ≡ spec.any_place (spec.is_wrong_field (spec.loose_by l.loose.reached.now l.loose.own.now) l.format) 0 l.format.fields
