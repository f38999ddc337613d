use Rattle.std.proofs.Common.{ap, subst}
use Rattle.sem_expr.specs.Ranged.{ranged}
use Rattle.sem_profile.specs.BoundsFaults.{wide_in}
use Rattle.sem_bounds.specs.Magnitude.{bounding, ReachesBeyond, TakesOn}
use Rattle.sem_bounds.proofs.MagnitudeLemmas.{at-last}
use Rattle.sem_bounds.proofs.magnitude.sum_reach.Goals as goal

pub operand-preserved : goal.operand-preserved
operand-preserved c = λ sizes parameters m more.
    let taken = subst (λ y. TakesOn c.in-Binary.operator c.operand.number y c.in-Some.next) c.deref.ensures c.in-Some.ensures in
    c.operand.invariant sizes parameters m (taken.on sizes parameters c.operand.rest.now c.in-Binary.left.value m
    (record { at = c.in-Binary.field-0; wide = λ format. ap (wide_in format sizes) c.in-Binary.is; ranged_is = ap (ranged (bounding sizes parameters)) c.in-Binary.is })
    (subst (λ x. ReachesBeyond sizes parameters x c.in-Some.next m) c.deref-rest.ensures more))

pub returns : goal.returns
returns c = λ sizes parameters.
    at-last c.small_sum.result sizes parameters c.args.expr.now c.operand.rest.now c.operand.number c.in_ok-small_reach.field-0 (c.operand.invariant sizes parameters) (c.in_ok-small_reach.ensures sizes parameters) c.small_sum.ensures
