use Rattle.std.proofs.Common.{refl, sym, ◌∙◌}
use Rattle.std.proofs.lemmas.Option.{slice_get_read}
use Rattle.sem_lint.proofs.SitesGrowing.{found_site, none_next, none_there}
use Rattle.sem_lint.proofs.sites.find_site.Goals as goal

pub returns-then-is_site-clause-found : goal.returns-then-is_site-clause-found
returns-then-is_site-clause-found c =
    found_site c.args.sites.now c.loop-place.place c.args.method c.args.path.now c.index-sites-place.result (slice_get_read c.args.sites.now _ c.loop-place.place c.index-sites-place.result refl c.loop-place-test.true c.index-sites-place.is)
    (sym c.is_site.ensures ∙ c.if-is_site.true)

pub loop-place-preserved : goal.loop-place-preserved
loop-place-preserved c =
    none_next c.args.sites.now c.args.method c.args.path.now c.loop-place.place c.index-sites-place.result (slice_get_read c.args.sites.now _ c.loop-place.place c.index-sites-place.result refl c.loop-place-test.true c.index-sites-place.is)
    (sym c.is_site.ensures ∙ c.if-is_site.false) c.loop-place.invariant

pub returns-clause-none : goal.returns-clause-none
returns-clause-none c = none_there c.args.sites.now c.args.method c.args.path.now c.loop-place.place c.loop-place-test.false c.loop-place.invariant
