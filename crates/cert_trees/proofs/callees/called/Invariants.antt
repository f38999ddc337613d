use Rattle.std.proofs.Common.{◌≡◌, ◌++◌, drop}
use Rattle.cert_trees.specs.Calling as spec
use Rattle.cert_trees.proofs.callees.called.Given as goal

abbrev pub invariant-loop-format : goal.invariant-loop-format
invariant-loop-format l = l.row ++ spec.called_in (drop l.format-index l.formats) ≡ spec.called_in l.formats
