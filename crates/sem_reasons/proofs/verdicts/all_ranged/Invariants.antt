use Rattle.std.proofs.Common.{◌≡◌, ◌++◌, drop}
use Rattle.std.specs.Prelude.{option_map}
use Rattle.sem_expr.specs.Bounds.{bounding_of}
use Rattle.sem_reasons.specs.Reasons.{all_ranged}
use Rattle.sem_reasons.proofs.verdicts.all_ranged.Given as goal

abbrev pub invariant-loop-expr : goal.invariant-loop-expr
invariant-loop-expr l = option_map (λ more. l.found ++ more) (all_ranged (bounding_of l.ranges) (drop l.expr-index l.exprs)) ≡ all_ranged (bounding_of l.ranges) l.exprs
