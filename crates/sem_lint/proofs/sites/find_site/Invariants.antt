use Rattle.sem_lint.proofs.SitesGrowing.{NoneBefore}
use Rattle.sem_lint.proofs.sites.find_site.Given as goal

abbrev pub invariant-loop-place : goal.invariant-loop-place
invariant-loop-place l = NoneBefore l.sites l.method l.path l.place
