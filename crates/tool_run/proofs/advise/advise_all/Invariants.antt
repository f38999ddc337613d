use Rattle.std.specs.Prelude.{string_bytes}
use Rattle.tool_run.proofs.PrintedAdvising.{TracedSoFar}
use Rattle.tool_run.proofs.advise.advise_all.Given as goal

-- the trends and the lines so far, and what comes of the items that are left
abbrev pub invariant-loop-i : goal.invariant-loop-i
invariant-loop-i l = TracedSoFar l.accepted l.fn.start l.items l.count l.lost l.i l.sender l.trends (string_bytes l.refused)
