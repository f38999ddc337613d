use Rattle.std.proofs.Common.{refl, sym, ◌∙◌}
use Rattle.std.proofs.lemmas.Option.{slice_get_read}
use Rattle.sem_lint.proofs.NeedsGrowing.{left_found, left_next, left_none}
use Rattle.sem_lint.proofs.growth.is_left_somewhere.Goals as goal

pub returns-then-leaves : goal.returns-then-leaves
returns-then-leaves c =
    left_found c.args.ground.now c.args.flags.now c.args.path.now c.args.name.now c.loop-place.place c.site-item.result
    (slice_get_read c.args.ground.now.sites.now _ c.loop-place.place c.site-item.result refl c.loop-place-test.true c.site-item.is) (sym c.leaves.ensures ∙ c.if-leaves.true)

pub loop-place-preserved : goal.loop-place-preserved
loop-place-preserved c =
    left_next c.args.ground.now c.args.flags.now c.args.path.now c.args.name.now c.loop-place.place c.site-item.result
    (slice_get_read c.args.ground.now.sites.now _ c.loop-place.place c.site-item.result refl c.loop-place-test.true c.site-item.is) (sym c.leaves.ensures ∙ c.if-leaves.false) c.loop-place.invariant

pub returns : goal.returns
returns c = left_none c.args.ground.now c.args.flags.now c.args.path.now c.args.name.now c.loop-place.place c.loop-place-test.false c.loop-place.invariant
