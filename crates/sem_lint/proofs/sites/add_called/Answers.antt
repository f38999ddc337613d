use Rattle.std.proofs.Common.{refl}
use Rattle.std.proofs.lemmas.Option.{slice_get_read}
use Rattle.sem_lint.proofs.SitesGrowing.{followed}
use Rattle.sem_lint.proofs.sites.add_called.Goals as goal

pub returns : goal.returns
returns c =
    followed c.args.methods.now c.args.place c.args.sites.now _ c.index-as_slice-place.result c.in_ok-site.site.method _ c.in-Some.method.now
    (rw c.as_slice.ensures at (slice_get_read c.as_slice.result.now _ c.args.place c.index-as_slice-place.result refl (rw c.as_slice.ensures c.requires) c.index-as_slice-place.is))
    c.in_ok-site.ensures.0 c.in_ok-site.ensures.1 (slice_get_read c.args.methods.now _ c.in_ok-site.site.method c.in-Some.method.now refl c.in-Some.ensures.lookup.3.0 c.in-Some.ensures.lookup.1)
    (rw (c.as_str.ensures.value, c.as_slice-2.ensures) at c.in_ok-add_of_formats.ensures)
