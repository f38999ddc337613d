use Rattle.tool_run.proofs.AvoidanceLemmas.{JudgedSoFar}
use Rattle.tool_run.specs.Avoidance.{wanted}
use Rattle.tool_run.proofs.avoidance.avoid_format.Given as goal

-- the verdicts so far, and the context that is reached
abbrev pub invariant-loop-i : goal.invariant-loop-i
invariant-loop-i l = JudgedSoFar l.accepted l.fn.start l.items (wanted l.aim) l.i l.context l.verdicts.kept
