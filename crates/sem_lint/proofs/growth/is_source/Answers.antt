use Rattle.std.proofs.Common.{refl}
use Rattle.std.proofs.lemmas.Option.{slice_get_read}
use Rattle.sem_lint.proofs.growth.is_source.Goals as goal

pub returns-in-Some : goal.returns-in-Some
returns-in-Some c e =
    (c.args.source.place, c.in-Some.site.now, slice_get_read c.args.ground.now.sites.now _ c.args.source.place c.in-Some.site.now refl c.in-Some.ensures.lookup.3.0 c.in-Some.ensures.lookup.1, c.leaves_by.ensures e)
