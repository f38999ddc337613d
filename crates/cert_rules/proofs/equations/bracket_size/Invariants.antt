use Rattle.std.proofs.Common.{◌≡◌, drop}
use Rattle.cert_rules.specs.Rules as spec
use Rattle.cert_rules.proofs.equations.bracket_size.Given as goal

abbrev pub invariant-loop-constraint : goal.invariant-loop-constraint
invariant-loop-constraint l = spec.bracket_size l.field (drop l.constraint-index l.constraints) ≡ spec.bracket_size l.field l.constraints
