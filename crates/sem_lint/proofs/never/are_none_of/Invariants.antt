use Rattle.std.proofs.Common.{◌≡◌, drop}
use Rattle.sem_expr.specs.Bounds.{bounding_of}
use Rattle.sem_lint.specs.Never.{are_none_of}
use Rattle.sem_lint.proofs.never.are_none_of.Given as goal

abbrev pub invariant-loop-expr : goal.invariant-loop-expr
invariant-loop-expr l = are_none_of (bounding_of l.ranges) l.due (drop l.expr-index l.exprs) ≡ are_none_of (bounding_of l.fn.ranges) l.fn.due l.fn.exprs
