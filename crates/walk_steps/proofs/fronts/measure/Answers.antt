use Rattle.std.proofs.Common.{refl, sym, ◌∙◌, arith}
use Rattle.walk_steps.proofs.FrontsAdvancing.{measured_next, sum_short}
use Rattle.walk_steps.proofs.fronts.measure.Goals as goal

pub overflow_add-next : goal.overflow_add-next
overflow_add-next c =
    let short = sum_short c.args.slots.now c.args.side c.args.parts.now c.loop-next.next c.in-Some.count c.loop-next.invariant c.loop-next-test.true (sym c.length_at.ensures ∙ c.in-Some.is) c.requires.short in
    omega (arith, short)

pub loop-next-preserved : goal.loop-next-preserved
loop-next-preserved c =
    measured_next c.args.slots.now c.args.side c.args.parts.now c.loop-next.next _ c.in-Some.count c.loop-next.invariant c.loop-next-test.true (sym c.length_at.ensures ∙ c.in-Some.is) refl refl
