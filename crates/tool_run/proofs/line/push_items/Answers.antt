use Rattle.std.proofs.Common.{ℕ, []}
use Rattle.std.proofs.lemmas.List.{get_or_read}
use Rattle.sem_filling.specs.declared.filling.Item.{Item}
use Rattle.tool_run.proofs.LineFlowing.{all_pushed, one_pushed}
use Rattle.tool_run.proofs.line.push_items.Goals as goal

pub loop-flow-preserved : goal.loop-flow-preserved
loop-flow-preserved c =
    let d : ℕ × Item = (0, record { header = []; asked = [] }) in
    let x = get_or_read c.args.items.now c.loop-flow.flow-index c.loop-flow-item.result c.loop-flow-test.true c.loop-flow-item.is d in
    one_pushed c.args.items.now c.loop-flow.flow-index d c.loop-flow-item.result _ _ _ c.loop-flow-test.true x c.loop-flow.invariant c.in_ok-push_item.ensures

pub returns : goal.returns
returns c = all_pushed c.args.items.now c.loop-flow.flow-index _ _ c.loop-flow-test.false c.loop-flow.invariant
