use Rattle.std.proofs.Common.{◌≡◌, ◌++◌, drop}
use Rattle.std.specs.List.{filter_map}
use Rattle.cert_trees.specs.Equations as spec
use Rattle.cert_trees.proofs.equations.equations.Given as goal

abbrev pub invariant-loop-constraint : goal.invariant-loop-constraint
invariant-loop-constraint l = l.found ++ filter_map spec.equation_of (drop l.constraint-index l.constraints) ≡ filter_map spec.equation_of l.constraints
