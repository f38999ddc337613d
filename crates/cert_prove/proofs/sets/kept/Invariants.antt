use Rattle.std.proofs.Common.{◌≡◌, ◌++◌, drop}
use Rattle.std.specs.List.{filter}
use Rattle.cert_prove.specs.Known as spec
use Rattle.cert_prove.proofs.sets.kept.Given as goal

abbrev pub invariant-loop-format : goal.invariant-loop-format
invariant-loop-format l = l.left ++ filter (spec.stays l.tolds l.test) (drop l.format-index l.set) ≡ filter (spec.stays l.tolds l.test) l.set
