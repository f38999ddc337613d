use Rattle.std.specs.Prelude.{string_bytes}
use Rattle.tool_run.specs.Printed.{FaultsItem, SaysItem, stop_of}
use Rattle.tool_run.proofs.PrintedReplying.{SoFar}
use Rattle.tool_run.proofs.packets.pack_all.Given as goal

-- the lines so far, and those for what is left from the context on
abbrev pub invariant-loop-i : goal.invariant-loop-i
invariant-loop-i l = SoFar (SaysItem l.shape l.accepted) (FaultsItem l.shape l.accepted) (stop_of l.shape) l.shows l.fn.start l.items l.i l.context (string_bytes l.output)
