use Rattle.std.proofs.Common.{refl}
use Rattle.std.proofs.lemmas.Option.{slice_get_read}
use Rattle.sem_lint.proofs.NeedsLacking.{lacking_site, lacks_there, some_unserved}
use Rattle.sem_lint.proofs.needs.lacking_at.Goals as goal

pub unreachable-requires-in_default-2 : goal.unreachable-requires-in_default-2
unreachable-requires-in_default-2 c =
    some_unserved c.args.ground.now c.args.known.now.flags c.args.method c.args.place c.args.format.now c.as_str-path.result.now
    (lacking_site c.args.ground.now c.args.known.now.flags c.args.method c.args.place c.in-Some.site.now c.as_str-path.result.now (slice_get_read c.args.ground.now.sites.now _ c.args.place c.in-Some.site.now refl c.in-Some.ensures.lookup.3.0 c.in-Some.ensures.lookup.1) c.as_str-path.ensures.value c.requires.place)
    c.requires.place (rw c.as_slice.ensures at rw c.in_default-2.is at c.in_ok-field.ensures.none) c.requires.lacks

pub lacking_path-requires-clause-site : goal.lacking_path-requires-clause-site
lacking_path-requires-clause-site c =
    (c.args.place, lacking_site c.args.ground.now c.args.known.now.flags c.args.method c.args.place c.in-Some.site.now c.as_str-path.result.now (slice_get_read c.args.ground.now.sites.now _ c.args.place c.in-Some.site.now refl c.in-Some.ensures.lookup.3.0 c.in-Some.ensures.lookup.1) c.as_str-path.ensures.value c.requires.place)

pub lacking_path-requires-clause-lacks : goal.lacking_path-requires-clause-lacks
lacking_path-requires-clause-lacks c = record { format = c.args.format.now; format_is = c.requires.format; unserved = rw c.as_slice.ensures at rw c.in-Some-2.is at c.in_ok-field.ensures.found }

pub returns : goal.returns
returns c =
    lacks_there c.args.ground.now c.args.method c.args.number c.args.place c.args.format.now c.as_str-path.result.now c.lacking_path.result
    (lacking_site c.args.ground.now c.args.known.now.flags c.args.method c.args.place c.in-Some.site.now c.as_str-path.result.now (slice_get_read c.args.ground.now.sites.now _ c.args.place c.in-Some.site.now refl c.in-Some.ensures.lookup.3.0 c.in-Some.ensures.lookup.1) c.as_str-path.ensures.value c.requires.place)
    c.requires.format c.lacking_path.ensures
