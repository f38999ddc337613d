use Rattle.std.proofs.Common.{length}
use Rattle.sem_lint.proofs.PathsLeading.{Follows}
use Rattle.sem_lint.proofs.paths.leads_to_field.Given as goal

abbrev pub invariant-loop-place : goal.invariant-loop-place
invariant-loop-place l = Follows l.methods l.top l.path l.reached l.rest l.place

abbrev pub decreases-loop-place : goal.decreases-loop-place
decreases-loop-place l = length l.rest
