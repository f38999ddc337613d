use Rattle.std.specs.Prelude.{string_bytes}
use Rattle.tool_run.specs.Senders.{RefusesSent}
use Rattle.tool_run.proofs.SenderLemmas.{of_item}
use Rattle.tool_run.proofs.SendersLines.{line_added}
use Rattle.tool_run.proofs.senders.refuse_sent.Goals as goal

pub sender_fault-requires : goal.sender_fault-requires
sender_fault-requires c = of_item c.args.accepted.now c.args.sender.now c.args.unsent.item.now c.args.unsent.fault c.requires

pub returns : goal.returns
returns c =
    line_added (RefusesSent c.args.accepted.now c.args.sender.now c.args.unsent.number c.args.unsent.item.now) c.push_line.result _ _ c.as_str.result.now (string_bytes c.in_ok-line.line) c.push_line.ensures c.as_str.ensures.value
    (c.args.unsent.fault, c.requires, c.in_ok-line.ensures.says, c.in_ok-line.ensures.line)
