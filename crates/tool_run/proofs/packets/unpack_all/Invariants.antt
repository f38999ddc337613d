use Rattle.std.specs.Prelude.{string_bytes}
use Rattle.tool_run.specs.Printed.{FaultsPacket, SaysPacket, stop_of}
use Rattle.tool_run.proofs.PrintedReplying.{SoFar}
use Rattle.tool_run.proofs.packets.unpack_all.Given as goal

-- the lines so far, and those for what is left from the context on
abbrev pub invariant-loop-i : goal.invariant-loop-i
invariant-loop-i l = SoFar (SaysPacket l.shape l.accepted) (FaultsPacket l.shape l.accepted) (stop_of l.shape) l.shows l.fn.start l.packets l.i l.context (string_bytes l.output)
