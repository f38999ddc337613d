use Rattle.std.proofs.Common.{◌≡◌, drop}
use Rattle.sem_lint.specs.Unnoticed as spec
use Rattle.sem_lint.proofs.unnoticed.first_wrong.Given as goal

abbrev pub invariant-loop-number : goal.invariant-loop-number
invariant-loop-number l =
    spec.first_place (spec.is_wrong_format l.dead (spec.loose_by l.loose.reached.now l.loose.own.now) l.method) l.number (drop l.number l.formats) ≡ spec.first_wrong l.dead (spec.loose_by l.loose.reached.now l.loose.own.now) l.method l.formats
