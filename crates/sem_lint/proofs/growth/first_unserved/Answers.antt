use Rattle.sem_lint.proofs.NeedsGrowing.{served_end, served_next}
use Rattle.sem_lint.proofs.growth.first_unserved.Goals as goal

pub loop-place-preserved : goal.loop-place-preserved
loop-place-preserved c =
    served_next c.args.ground.now c.args.known.now.flags c.args.path.now c.args.fields.now c.loop-place.place c.index-fields-place.result _ c.index-fields-place.is c.in_ok-is_served.ensures c.if-not-branch.false c.loop-place.invariant

pub returns-clause-none : goal.returns-clause-none
returns-clause-none c = served_end c.args.ground.now c.args.known.now.flags c.args.path.now c.args.fields.now c.loop-place.place c.loop-place-test.false c.loop-place.invariant
