use Rattle.std.proofs.Common.{ap, ◌∙◌}
use Rattle.tool_input.specs.Inputs.{IsItem}
use Rattle.tool_input.proofs.InputLines.{shown, broken_in, lines_all, lines_more, lines_bad}
use Rattle.tool_input.proofs.inputs.read_items.Goals as goal

pub returns-in-Err-clause-bad : goal.returns-in-Err-clause-bad
returns-in-Err-clause-bad c = broken_in IsItem c.args.octets.now c.bad_line_of.result (c.bad_line_of.ensures c.args.octets.now c.in-Err.ensures.fault)

pub returns-in-None-clause-bad : goal.returns-in-None-clause-bad
returns-in-None-clause-bad c =
    lines_bad IsItem c.args.octets.now _ _ _ _ c.in-Ok.ensures.text (ap shown c.deref-line-items.ensures.value ∙ c.in-Ok.ensures.found) c.loop-line-test.true c.loop-line.invariant (rw c.in-None.is at c.in_ok-item.ensures.none)

pub loop-line-preserved : goal.loop-line-preserved
loop-line-preserved c = lines_more IsItem _ _ _ _ _ _ c.loop-line-test.true c.loop-line.invariant (rw c.in-Some.is at c.in_ok-item.ensures.found) c.in_ok-push-in-Some.ensures.items

pub returns-clause-found : goal.returns-clause-found
returns-clause-found c =
    lines_all IsItem c.args.octets.now _ _ _ c.in-Ok.ensures.text (ap shown c.deref-line-items.ensures.value ∙ c.in-Ok.ensures.found) c.loop-line-test.false c.loop-line.invariant
