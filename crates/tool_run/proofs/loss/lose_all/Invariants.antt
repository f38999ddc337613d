use Rattle.tool_run.proofs.Losing.{LosesSoFar}
use Rattle.tool_run.proofs.loss.lose_all.Given as goal

-- what is held, counted and told so far, and what comes of the items that are left
abbrev pub invariant-loop-i : goal.invariant-loop-i
invariant-loop-i l = LosesSoFar l.accepted l.most l.fn.start l.items l.i l.run.sender l.run.held l.run.tally l.run.journal
