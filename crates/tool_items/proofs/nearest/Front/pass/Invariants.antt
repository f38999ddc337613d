use Rattle.tool_items.proofs.NearestWindows.{PassedSoFar}
use Rattle.tool_items.proofs.nearest.Front.pass.Given as goal

abbrev pub invariant-loop-place : goal.invariant-loop-place
invariant-loop-place l = PassedSoFar l.bound l.fn.self.passed l.left l.place l.self.passed
