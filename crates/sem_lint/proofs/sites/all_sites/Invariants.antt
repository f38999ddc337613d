use Rattle.sem_lint.proofs.SitesGrowing.{AreFollowed}
use Rattle.sem_lint.proofs.sites.all_sites.Given as goal

abbrev pub invariant-loop-place : goal.invariant-loop-place
invariant-loop-place l = AreFollowed l.methods l.top l.place l.sites
