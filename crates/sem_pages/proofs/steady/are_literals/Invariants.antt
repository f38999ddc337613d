use Rattle.sem_filling.proofs.Each.{Before}
use Rattle.sem_pages.specs.Steady.{IsLiteral}
use Rattle.sem_pages.proofs.steady.are_literals.Given as goal

abbrev pub invariant-loop-expr : goal.invariant-loop-expr
invariant-loop-expr l = Before (λ i e. IsLiteral e) l.exprs l.expr-index
