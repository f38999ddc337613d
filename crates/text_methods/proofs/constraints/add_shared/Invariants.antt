use Rattle.std.proofs.Common.{◌≡◌, ◌++◌, drop}
use Rattle.text_methods.proofs.constraints.add_shared.Given as goal

abbrev pub invariant-loop-constraint : goal.invariant-loop-constraint
invariant-loop-constraint l = l.found ++ drop l.constraint-index l.constraints ≡ l.initial.found ++ l.constraints
