use Rattle.std.proofs.Common.{refl, sym, ◌∙◌}
use Rattle.std.proofs.lemmas.Option.{slice_get_read}
use Rattle.sem_lint.proofs.NeedsTelling.{reached_found, reached_next, reached_none}
use Rattle.sem_lint.proofs.needs.first_reached.Goals as goal

pub returns-then-is_reached_as-clause-found : goal.returns-then-is_reached_as-clause-found
returns-then-is_reached_as-clause-found c =
    reached_found c.args.ground.now c.args.known.now.flags c.args.method c.loop-place.place c.site-item.result (slice_get_read c.args.ground.now.sites.now _ c.loop-place.place c.site-item.result refl c.loop-place-test.true c.site-item.is)
    (sym c.is_reached_as.ensures ∙ c.if-is_reached_as.true)

pub loop-place-preserved : goal.loop-place-preserved
loop-place-preserved c =
    reached_next c.args.ground.now c.args.known.now.flags c.args.method c.loop-place.place c.site-item.result (slice_get_read c.args.ground.now.sites.now _ c.loop-place.place c.site-item.result refl c.loop-place-test.true c.site-item.is)
    (sym c.is_reached_as.ensures ∙ c.if-is_reached_as.false) c.loop-place.invariant

pub returns-clause-none : goal.returns-clause-none
returns-clause-none c = reached_none c.args.ground.now c.args.known.now.flags c.args.method c.loop-place.place c.loop-place-test.false c.loop-place.invariant
