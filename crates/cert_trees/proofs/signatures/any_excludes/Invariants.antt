use Rattle.std.proofs.Common.{◌≡◌, drop}
use Rattle.std.specs.List.{list_any}
use Rattle.cert_trees.specs.Equations as equations_spec
use Rattle.cert_trees.proofs.signatures.any_excludes.Given as goal

abbrev pub invariant-loop-equation : goal.invariant-loop-equation
invariant-loop-equation l = list_any (equations_spec.excludes l.tested l.constant) (drop l.equation-index l.equations) ≡ list_any (equations_spec.excludes l.tested l.constant) l.equations
