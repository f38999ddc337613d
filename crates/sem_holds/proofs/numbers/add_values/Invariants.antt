use Rattle.std.proofs.Common.{◌≡◌, ◌++◌, drop}
use Rattle.std.specs.Prelude.{option_map}
use Rattle.sem_expr.specs.Known.{assignment_of}
use Rattle.sem_filling.specs.Fits.{vals}
use Rattle.sem_holds.proofs.numbers.add_values.Given as goal

abbrev pub invariant-loop-expression : goal.invariant-loop-expression
invariant-loop-expression l = option_map (λ vs. l.values.items ++ vs) (vals (assignment_of l.seen) (drop l.expression-index l.expressions)) ≡ vals (assignment_of l.seen) l.expressions
