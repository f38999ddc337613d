use Rattle.tool_run.proofs.PrintedTallying.{CountedSoFar}
use Rattle.tool_run.proofs.stats.count_all.Given as goal

-- what is told so far, and what comes of the items that are left
abbrev pub invariant-loop-i : goal.invariant-loop-i
invariant-loop-i l = CountedSoFar l.accepted l.counting l.fn.start l.items l.i l.sender l.told
