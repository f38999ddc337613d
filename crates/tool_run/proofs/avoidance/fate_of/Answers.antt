use Rattle.tool_run.proofs.avoidance.fate_of.Goals as goal

pub returns-in-Top : goal.returns-in-Top
returns-in-Top c = rw (c.in-Top.is) c.fate_at_top.ensures

pub returns-in-Inside : goal.returns-in-Inside
returns-in-Inside c = rw (c.in-Inside.is) c.fate_inside.ensures
