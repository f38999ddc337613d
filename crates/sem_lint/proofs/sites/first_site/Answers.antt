use Rattle.std.proofs.Common.{refl}
use Rattle.sem_lint.proofs.SitesGrowing.{first_is}
use Rattle.sem_lint.proofs.sites.first_site.Goals as goal

pub returns : goal.returns
returns c = first_is c.args.top _ _ _ c.new-sites.ensures c.in_ok-push.ensures.ok refl c.new.ensures.bytes
