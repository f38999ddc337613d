use Rattle.std.proofs.Common.{◌≡◌, take}
use Rattle.sem_profile.specs.BoundsFaults as spec
use Rattle.sem_bounds.proofs.faults.exprs_fault.Given as goal

abbrev pub invariant-loop-expr : goal.invariant-loop-expr
invariant-loop-expr l = l.found ≡ spec.earliest (spec.expr_fault l.extent l.format l.sizes l.ranges) (take l.expr-index l.exprs)
