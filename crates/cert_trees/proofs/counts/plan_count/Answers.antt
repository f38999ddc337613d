use Rattle.std.proofs.Common.{arith}
use Rattle.std.proofs.lemmas.Option.{slice_get-get_or}
use Rattle.cert_trees.proofs.Counting.{plan_more, plan_done}
use Rattle.cert_trees.proofs.counts.plan_count.Goals as goal

pub loop-step-preserved : goal.loop-step-preserved
loop-step-preserved c = record {
  small = omega (arith, c.product-total.ensures);
  counted = λ exact is.
      plan_more exact c.args.format.now c.args.steps.now c.loop-step.step-index _ c.loop-step.total c.product-total.result c.step_count.result _
      (slice_get-get_or c.args.steps.now c.loop-step.step-index _ c.loop-step-test.true) (c.step_count.ensures exact is) c.product-total.ensures (c.loop-step.invariant.counted exact is);
}

pub returns : goal.returns
returns c = λ exact is. plan_done exact c.args.format.now c.args.steps.now c.loop-step.step-index c.loop-step.total _ c.loop-step-test.false c.loop-step.invariant.small (c.loop-step.invariant.counted exact is)
