use Rattle.std.proofs.Common.{arith}
use Rattle.tool_items.specs.Steps.{step}
use Rattle.tool_items.proofs.StepsCounting.{from_end, from_more}
use Rattle.tool_items.proofs.steps.Steps.add_from.Goals as goal

pub loop-from-preserved : goal.loop-from-preserved
loop-from-preserved c = λ new so.
    c.loop-from.invariant new (from_more (λ r. step r c.args.later.now) c.args.earlier.now c.loop-from.from-index c.from-item.result c.loop-from-test.true c.from-item.is c.loop-from.self _ new c.in_ok-add.ensures so)

pub returns : goal.returns
returns c = from_end (λ r. step r c.args.later.now) c.args.earlier.now c.loop-from.from-index (omega (arith, c.loop-from-test.false)) c.args.self.now c.loop-from.self c.loop-from.invariant
