use Rattle.std.specs.Prelude.{map, string_bytes}
use Rattle.walk_line.specs.Laws.{items_sent}
use Rattle.walk_line.specs.Runs.{event_of}
use Rattle.tool_run.proofs.LineFlowing.{PushedSoFar, sent_from}
use Rattle.tool_run.proofs.line.push_sent.Given as goal

-- the lines so far, and those of the items of the events that are left
abbrev pub invariant-loop-event : goal.invariant-loop-event
invariant-loop-event l = PushedSoFar (items_sent (map event_of l.events)) (sent_from l.events l.event-index) (string_bytes l.fn.output) (string_bytes l.output)
