use Rattle.std.proofs.Common.{◌≡◌, drop}
use Rattle.cert_prove.specs.Known as spec
use Rattle.cert_prove.proofs.sets.loses.Given as goal

abbrev pub invariant-loop-format : goal.invariant-loop-format
invariant-loop-format l = spec.loses l.tolds (drop l.format-index l.set) l.test ≡ spec.loses l.tolds l.set l.test
