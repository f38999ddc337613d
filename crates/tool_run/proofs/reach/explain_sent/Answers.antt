use Rattle.std.proofs.Common.{subst}
use Rattle.std.specs.Prelude.{string_bytes}
use Rattle.tool_run.specs.Printed.{ExplainsItem, ExplainsSent, LacksReach, no_reach, no_room, not_packed}
use Rattle.tool_run.proofs.SendersLines.{line_added, line_as}
use Rattle.tool_run.proofs.reach.explain_sent.Goals as goal

pub returns-in-Pack : goal.returns-in-Pack
returns-in-Pack c =
    let octets = c.args.octets.now in
    let a = c.args.accepted.now in
    let n = c.args.unsent.number in
    let it = c.args.unsent.item.now in
    line_as (ExplainsItem octets a c.context-own.result.now n it) (ExplainsSent octets a c.args.sender.now n it) c.explain_item.result _ _
    (λ text says. not_packed (subst (λ ctx. ExplainsItem octets a ctx n it text) c.context-own.ensures says)) c.explain_item.ensures

pub returns-in-NoReach : goal.returns-in-NoReach
returns-in-NoReach c =
    line_as (LacksReach c.args.octets.now c.args.accepted.now c.args.sender.now c.args.unsent.number c.args.unsent.item.now) (ExplainsSent c.args.octets.now c.args.accepted.now c.args.sender.now c.args.unsent.number c.args.unsent.item.now)
    c.explain_reach.result _ _ (λ text says. no_reach says) c.explain_reach.ensures

pub returns-in_ok-line-in-Contexts : goal.returns-in_ok-line-in-Contexts
returns-in_ok-line-in-Contexts c =
    line_added (ExplainsSent c.args.octets.now c.args.accepted.now c.args.sender.now c.args.unsent.number c.args.unsent.item.now) c.push_line.result _ _ c.as_str.result.now (string_bytes c.in_ok-line-in-Contexts.line) c.push_line.ensures c.as_str.ensures.value
    (no_room (rw c.in-Contexts.is at c.requires) c.in_ok-line-in-Contexts.ensures)
