use Rattle.std.specs.Prelude.{string_bytes}
use Rattle.tool_run.proofs.SendersLines.{SentSoFar}
use Rattle.tool_run.proofs.senders.send_all.Given as goal

-- the lines so far, and those for what is left
abbrev pub invariant-loop-i : goal.invariant-loop-i
invariant-loop-i l = SentSoFar l.shape l.shows l.accepted l.fn.start l.items l.i l.sender (string_bytes l.output)
