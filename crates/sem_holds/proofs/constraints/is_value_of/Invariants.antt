use Rattle.std.proofs.Common.{◌≡◌}
use Rattle.std.specs.Prelude.{Some, pos}
use Rattle.sem_expr.specs.Values.{val}
use Rattle.sem_expr.specs.Known.{assignment_of}
use Rattle.sem_filling.proofs.Each.{Before}
use Rattle.sem_holds.proofs.constraints.is_value_of.Given as goal

abbrev pub invariant-loop-expression : goal.invariant-loop-expression
invariant-loop-expression l = Before (λ n e. val (assignment_of l.known) e ≡ Some (pos l.length) → ⊥) l.expressions l.expression-index
