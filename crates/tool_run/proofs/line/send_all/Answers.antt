use Rattle.std.proofs.Common.{rules, map, subst}
use Rattle.std.specs.Prelude.{IfOk}
use Rattle.walk_line.specs.Laws.{items_sent}
use Rattle.walk_line.specs.Runs.{event_of}
use Rattle.tool_run.specs.Line.{IsSentPrinted}
use Rattle.tool_run.proofs.LineFlowing.{refused_event_is, sent_printed}
use Rattle.tool_run.proofs.line.send_all.Goals as goal

pub returns-in-Ok : goal.returns-in-Ok
returns-in-Ok c =
    let sent = items_sent (map event_of c.args.events.now) in
    sent_printed c.args.version c.args.accepted.now c.args.events.now c.in-Ok.octets.items sent c.print_sent.result c.in-Ok.ensures.ok
    (subst (λ o. IfOk c.print_sent.result (IsSentPrinted o sent)) c.as_slice.ensures.value c.print_sent.ensures)

pub returns-in_ok-line-in-Err-Refused : goal.returns-in_ok-line-in-Err-Refused
returns-in_ok-line-in-Err-Refused c =
    refused_event_is c.args.version c.args.accepted.now c.args.events.now c.in-Err-Refused.field-0 c.in-Err-Refused.index _ c.in-Err-Refused.fault _ _ c.refusal.result c.in-Err-Refused.ensures.fault c.in-Err-Refused.field-0-is c.in_ok-line-in-Err-Refused.ensures.says c.in_ok-line-in-Err-Refused.ensures.line (search rules) c.as_str.ensures.value c.refusal.ensures
