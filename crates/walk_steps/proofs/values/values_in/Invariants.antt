use Rattle.std.proofs.Common.{◌≡◌, ◌++◌, drop}
use Rattle.std.specs.Prelude.{option_map}
use Rattle.sem_expr.specs.Known.{assignment_of}
use Rattle.sem_filling.specs.Fits.{vals}
use Rattle.walk_steps.specs.LevelNumbers.{known_in}
use Rattle.walk_steps.proofs.values.values_in.Given as goal

abbrev pub invariant-loop-expr : goal.invariant-loop-expr
invariant-loop-expr l =
    option_map (λ vs. l.values ++ vs) (vals (assignment_of (known_in l.sight)) (drop l.expr-index l.exprs)) ≡ vals (assignment_of (known_in l.sight)) l.exprs
