use Rattle.sem_lint.proofs.NeedsTelling.{served_found, served_next, served_none}
use Rattle.sem_lint.proofs.needs.is_served_somewhere.Goals as goal

pub returns-then-branch : goal.returns-then-branch
returns-then-branch c = served_found c.args.ground.now c.args.known.now.flags c.args.method c.args.format.now c.loop-place.place _ c.in_ok-is_served_at.ensures c.if-branch.true

pub loop-place-preserved : goal.loop-place-preserved
loop-place-preserved c = served_next c.args.ground.now c.args.known.now.flags c.args.method c.args.format.now c.loop-place.place _ c.in_ok-is_served_at.ensures c.if-branch.false c.loop-place.invariant

pub returns : goal.returns
returns c = served_none c.args.ground.now c.args.known.now.flags c.args.method c.args.format.now c.loop-place.place c.loop-place-test.false c.loop-place.invariant
