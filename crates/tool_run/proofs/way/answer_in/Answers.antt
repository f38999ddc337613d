use Rattle.tool_run.proofs.way.answer_in.Goals as goal

pub returns-in-Run : goal.returns-in-Run
returns-in-Run c = rw c.in-Run.is c.answer_each.ensures

pub returns-in-Survey : goal.returns-in-Survey
returns-in-Survey c = rw c.in-Survey.is c.stats_in.ensures
