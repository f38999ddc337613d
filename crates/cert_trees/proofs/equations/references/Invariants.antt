use Rattle.std.proofs.Common.{◌≡◌, ◌++◌, drop}
use Rattle.std.specs.List.{filter_map}
use Rattle.cert_trees.specs.Equations as spec
use Rattle.cert_trees.proofs.equations.references.Given as goal

abbrev pub invariant-loop-constraint : goal.invariant-loop-constraint
invariant-loop-constraint l = l.found ++ filter_map (spec.reference_of l.fields) (drop l.constraint-index l.constraints) ≡ filter_map (spec.reference_of l.fields) l.constraints
