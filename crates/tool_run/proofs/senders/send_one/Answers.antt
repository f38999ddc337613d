use Rattle.tool_run.proofs.senders.send_one.Goals as goal

pub returns-in_ok-push_written-in-Ok : goal.returns-in_ok-push_written-in-Ok
returns-in_ok-push_written-in-Ok c = (c.in-Ok.field-0, c.in-Ok.ensures.sent, c.in_ok-push_written-in-Ok.ensures)
