use Rattle.std.proofs.Common.{◌≡◌, drop}
use Rattle.sem_expr.specs.Bounds.{bounding_of}
use Rattle.sem_lint.specs.Undefined.{first_undefined}
use Rattle.sem_lint.proofs.undefined.first_undefined.Given as goal

abbrev pub invariant-loop-expr : goal.invariant-loop-expr
invariant-loop-expr l = first_undefined (bounding_of l.ranges) (drop l.expr-index l.exprs) ≡ first_undefined (bounding_of l.fn.ranges) l.fn.exprs
