use Rattle.std.proofs.Common.{refl, sym, ◌∙◌}
use Rattle.sem_lint.proofs.SitesGrowing.{site_last, site_there}
use Rattle.sem_lint.proofs.sites.add_site.Goals as goal

pub returns-then-is_some : goal.returns-then-is_some
returns-then-is_some c = site_there _ _ _ c.find_site.result (rw (c.as_slice.ensures, c.as_str.ensures.value) at c.find_site.ensures.found) (sym c.is_some.ensures ∙ c.if-is_some.true)

pub returns : goal.returns
returns c = site_last _ _ _ _ c.find_site.result _ (rw (c.as_slice.ensures, c.as_str.ensures.value) at c.find_site.ensures.none) (sym c.is_some.ensures ∙ c.if-is_some.false) c.in_ok-push.ensures.ok refl refl
