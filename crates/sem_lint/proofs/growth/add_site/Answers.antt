use Rattle.std.proofs.Common.{refl}
use Rattle.std.proofs.lemmas.Option.{slice_get_read}
use Rattle.sem_lint.proofs.NeedsAdding.{formats_of, site_done}
use Rattle.sem_lint.proofs.growth.add_site.Goals as goal

pub returns-clause-done : goal.returns-clause-done
returns-clause-done c e =
    site_done c.args.ground.now _ c.args.place c.args.site.now c.in-Some.method.now.formats c.requires.site
    (formats_of c.args.ground.now c.args.site.now.method c.in-Some.method.now (slice_get_read c.args.ground.now.methods.now _ c.args.site.now.method c.in-Some.method.now refl c.in-Some.ensures.lookup.3.0 c.in-Some.ensures.lookup.1))
    (rw c.as_slice-formats.ensures at c.in_ok-changes.ensures.done e)
