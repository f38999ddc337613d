use Rattle.std.proofs.Common.{◌≡◌, ◌++◌, drop}
use Rattle.cert_trees.specs.Signature as spec
use Rattle.cert_trees.proofs.sets.kept.Given as goal

abbrev pub invariant-loop-place : goal.invariant-loop-place
invariant-loop-place l = l.left ++ spec.kept l.test (drop l.place l.tolds) (drop l.place l.set) ≡ spec.kept l.test l.tolds l.set
