use Rattle.std.proofs.Common.{rules, ◌≡◌, ap, subst, w64, to_z, of_z}
use Rattle.sem_expr.specs.Bounds.{anything, bounding_of}
use Rattle.sem_expr.specs.Known.{assignment_of, nothing_known}
use Rattle.sem_expr.specs.Ranged.{ranged}
use Rattle.sem_expr.specs.Values.{val}
use Rattle.sem_bounds.specs.Constants.{IsMore, TakesOn}
use Rattle.sem_bounds.proofs.ConstantsLemmas.{at-last}
use Rattle.sem_bounds.proofs.constants.small_sum.Goals as goal

pub operand-init : goal.operand-init
operand-init c = λ v more. more

pub operand-preserved : goal.operand-preserved
operand-preserved c = λ v more.
    let next : to_z w64 (of_z w64 c.in-Some.next) ≡ c.in-Some.next = (search rules) in
    let taken = subst (λ y. TakesOn c.in-Binary.operator (to_z w64 c.operand.number-bits) y c.in-Some.next) c.deref.ensures c.in-Some.ensures in
    let left = subst (λ k. IsMore c.in-Binary.left.value k v) next (subst (λ x. IsMore x (to_z w64 (of_z w64 c.in-Some.next)) v) c.deref-rest.ensures more) in
    c.operand.invariant v (taken.on c.operand.rest.now c.in-Binary.left.value v
    (record { at = c.in-Binary.field-0; value_is = ap (val (assignment_of nothing_known)) c.in-Binary.is; range_is = ap (ranged (bounding_of anything)) c.in-Binary.is })
    left)

pub returns : goal.returns
returns c =
    let value : to_z w64 (of_z w64 c.in_ok-small.field-0) ≡ c.in_ok-small.field-0 = (search rules) in
    at-last c.sum.result c.args.expr.now c.operand.rest.now (to_z w64 c.operand.number-bits) c.in_ok-small.field-0 (to_z w64 (of_z w64 c.in_ok-small.field-0)) c.operand.invariant c.in_ok-small.ensures value c.sum.ensures
