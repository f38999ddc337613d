use Rattle.std.proofs.Common.{◌∙◌}
use Rattle.tool_input.proofs.RefusalsHeld.{passed_on}
use Rattle.tool_run.specs.Way.{ByContext, InContext}
use Rattle.tool_run.proofs.WayLemmas.{bad_context_by, context_by}
use Rattle.tool_run.proofs.way.answer_from.Goals as goal

pub returns-in-Ok : goal.returns-in-Ok
returns-in-Ok c =
    passed_on (InContext c.args.asked c.args.order.now.shows_context c.args.accepted.now c.in-Ok.context c.args.input.now) (ByContext c.args.asked c.args.order.now.shows_context c.args.accepted.now c.args.parts.now.context c.args.input.now) c.answer_in.result
    (context_by c.args.asked c.args.order.now.shows_context c.args.accepted.now c.args.parts.now.context c.args.input.now c.in-Ok.context c.in-Ok.ensures.found) c.answer_in.ensures

pub returns-in_ok-line-in-Err-Number : goal.returns-in_ok-line-in-Err-Number
returns-in_ok-line-in-Err-Number c =
    bad_context_by c.args.asked c.args.order.now.shows_context c.args.accepted.now c.args.parts.now.context c.args.input.now _ c.in-Err-Number.number _ _ c.refusal.result c.in-Err-Number.ensures.bad c.in-Err-Number.field-0-is
    (c.as_str.ensures.value ∙ c.in_ok-line-in-Err-Number.ensures) (search) c.refusal.ensures
