use Rattle.std.proofs.Common.{◌-◌, length}
use Rattle.std.specs.Prelude.{string_bytes}
use Rattle.tool_run.proofs.FramePieces.{HeardSoFar}
use Rattle.tool_run.proofs.frames.push_heard.Given as goal

-- the octets so far were heard, and the lines of what they give stand there
abbrev pub invariant-loop-place : goal.invariant-loop-place
invariant-loop-place l = HeardSoFar l.fn.accepted l.octets l.place l.receiver (string_bytes l.fn.output) (string_bytes l.output)

abbrev pub decreases-loop-place : goal.decreases-loop-place
decreases-loop-place l = length l.octets - l.place
