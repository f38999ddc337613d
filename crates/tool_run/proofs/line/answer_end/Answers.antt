use Rattle.tool_run.proofs.line.answer_end.Goals as goal

pub returns-in-Sending : goal.returns-in-Sending
returns-in-Sending c = rw c.in-Sending.is c.answer_events.ensures

pub returns-in-Receiving : goal.returns-in-Receiving
returns-in-Receiving c = rw c.in-Receiving.is c.answer_octets.ensures
