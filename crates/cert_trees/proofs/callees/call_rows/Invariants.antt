use Rattle.std.proofs.Common.{◌≡◌, ◌++◌, map, drop}
use Rattle.cert_trees.specs.Calling as spec
use Rattle.cert_trees.proofs.callees.call_rows.Given as goal

abbrev pub invariant-loop-method : goal.invariant-loop-method
invariant-loop-method l = l.rows ++ map spec.called (drop l.method-index l.methods) ≡ map spec.called l.methods
