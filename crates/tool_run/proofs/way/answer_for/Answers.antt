use Rattle.std.proofs.Common.{subst}
use Rattle.std.specs.Prelude.{IfOk}
use Rattle.tool_input.specs.Refusals.{Holds}
use Rattle.tool_run.specs.Line.{AnsweredEnd}
use Rattle.tool_run.proofs.way.answer_for.Goals as goal

pub returns-in-Inputs : goal.returns-in-Inputs
returns-in-Inputs c = rw c.in-Inputs.is c.answer_from.ensures

pub returns-in-Line : goal.returns-in-Line
returns-in-Line c = rw c.in-Line.is (subst (λ v. IfOk c.answer_end.result (Holds (AnsweredEnd c.in-Line.end v c.args.accepted.now c.args.input.now))) c.line_version-version.ensures c.answer_end.ensures)

pub returns-in-Frames : goal.returns-in-Frames
returns-in-Frames c = rw c.in-Frames.is c.answer_end-in-Frames.ensures
