use Rattle.tool_run.proofs.answers.answer_each.Goals as goal

pub returns-in-Pack : goal.returns-in-Pack
returns-in-Pack c = rw c.in-Pack.is c.answer_items.ensures

pub returns-in-Unpack : goal.returns-in-Unpack
returns-in-Unpack c = rw c.in-Unpack.is c.answer_packets.ensures
