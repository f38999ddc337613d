use Rattle.std.proofs.Common.{refl}
use Rattle.std.proofs.lemmas.Option.{slice_get_read}
use Rattle.sem_lint.proofs.EntriesListed.{but_listed}
use Rattle.sem_lint.proofs.growth.list_site.Goals as goal

pub returns-clause-listed : goal.returns-clause-listed
returns-clause-listed c =
    but_listed c.args.ground.now c.args.known.now c.args.place c.in-Some.site.now c.in-Some-get.method.now c.as_str.result.now c.list_formats.new.left c.list_formats.result
    (slice_get_read c.args.ground.now.sites.now _ c.args.place c.in-Some.site.now refl c.in-Some.ensures.lookup.3.0 c.in-Some.ensures.lookup.1)
    (slice_get_read c.args.ground.now.methods.now _ c.in-Some.site.now.method c.in-Some-get.method.now refl c.in-Some-get.ensures.lookup.3.0 c.in-Some-get.ensures.lookup.1) c.as_str.ensures.value c.requires
    (rw c.as_slice-formats.ensures at c.list_formats.ensures)
