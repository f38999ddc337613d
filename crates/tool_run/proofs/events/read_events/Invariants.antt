use Rattle.std.proofs.Common.{take}
use Rattle.tool_run.specs.Events.{IsEvent}
use Rattle.tool_input.specs.Inputs.{AreRead}
use Rattle.tool_input.proofs.InputLines.{shown}
use Rattle.tool_run.proofs.events.read_events.Given as goal

-- the lines so far are read as the events so far
abbrev pub invariant-loop-line : goal.invariant-loop-line
invariant-loop-line l = AreRead IsEvent (shown (take l.line-index l.line-items)) l.inputs.items
