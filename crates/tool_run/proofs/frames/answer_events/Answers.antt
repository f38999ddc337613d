use Rattle.tool_run.specs.Frames.{AnsweredEvents, PrintsSent, sent_events}
use Rattle.tool_run.proofs.FrameFlowing.{bad_events_are}
use Rattle.tool_input.proofs.RefusalsHeld.{passed_on}
use Rattle.tool_run.proofs.frames.answer_events.Goals as goal
use Rattle.std.proofs.Common.{◌∙◌}

pub returns-in-Ok : goal.returns-in-Ok
returns-in-Ok c =
    passed_on (PrintsSent c.args.lost c.args.accepted.now c.as_slice.result.now) (AnsweredEvents c.args.lost c.args.accepted.now c.args.input.now) c.send_all.result
    (λ s out h. sent_events c.as_slice.result.now (rw c.as_slice.ensures.value c.in-Ok.ensures.found) h) c.send_all.ensures

pub returns-in_ok-line-in-Err-Number : goal.returns-in_ok-line-in-Err-Number
returns-in_ok-line-in-Err-Number c =
    let bad = rw c.in-Err-Number.field-0-is at c.in-Err-Number.ensures.bad in
    bad_events_are c.args.lost c.args.accepted.now c.args.input.now c.in-Err-Number.number _ _ c.refusal.result bad (c.as_str.ensures.value ∙ c.in_ok-line-in-Err-Number.ensures) (search) c.refusal.ensures
