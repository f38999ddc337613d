use Rattle.tool_survey.proofs.MeantLines.{SoFar}
use Rattle.tool_survey.proofs.meant.meant_lines.Given as goal

-- the lines before, and those from the piece of this line on
abbrev pub invariant-loop-place : goal.invariant-loop-place
invariant-loop-place l = SoFar l.octets l.start l.place l.meant.items
