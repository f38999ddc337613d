use Rattle.std.proofs.Common.{◌≡◌, ◌-◌, ◌∙◌, get_or, ap, sym, subst, arith}
use Rattle.sem_profile.specs.Parameters.{RangedFrom, parameter_ranges}
use Rattle.sem_bounds.specs.Callers.{row_at}
use Rattle.sem_bounds.proofs.CallersRows.{row-of}
use Rattle.sem_bounds.proofs.ParametersCalling.{ranged-none, ranged-pass, ranged-step}
use Rattle.sem_bounds.proofs.methods.with_ranges.Goals as goal

pub loop-left-init : goal.loop-left-init
loop-left-init c = (omega arith, c.requires.sized, ranged-none c.args.none c.args.methods.now c.args.order.now c.args.sized.items)

pub loop-left-preserved-in_default : goal.loop-left-preserved-in_default
loop-left-preserved-in_default c =
    ranged-pass c.args.none c.args.methods.now c.args.order.now c.loop-left.left c.loop-left.table.items c.loop-left-test.true (c.in_default.ensures {u = tt}) c.loop-left.invariant

pub loop-left-preserved : goal.loop-left-preserved
loop-left-preserved c =
    ranged-step c.args.none c.args.methods.now c.args.order.now c.loop-left.left c.in-Some.method.now c.loop-left.table.items _ c.in_ok-parameters.parameters c.requires.order c.loop-left-test.true
    (c.in-Some.ensures {u = tt}) (c.in_ok-parameters.ensures {u = tt} ∙ ap (λ t. parameter_ranges c.args.none c.args.methods.now t (get_or c.args.order.now (c.loop-left.left - 1) 0) c.in-Some.method.now) c.as_slice-sizes.ensures.value)
    c.set_parameters.ensures c.loop-left.invariant

pub returns-clause-ranged : goal.returns-clause-ranged
returns-clause-ranged c =
    let none : c.loop-left.left ≡ 0 = omega (arith, c.loop-left-test.false) in
    subst (λ n. RangedFrom c.args.none c.args.methods.now c.args.order.now n c.loop-left.table.items) none c.loop-left.invariant.2

pub parameter_ranges-requires : goal.parameter_ranges-requires
parameter_ranges-requires c =
    let index = get_or c.args.order.now (c.loop-left.left - 1) 0 in
    c.callers_at-row.ensures ∙ ap (λ rows. row_at rows index) c.requires.callers ∙ row-of c.args.methods.now index c.in-Some.method.now (sym (c.in-Some.ensures {u = tt}))
