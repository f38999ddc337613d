use Rattle.sem_lint.proofs.NeedsAdding.{round_end, round_on}
use Rattle.sem_lint.proofs.growth.add_round.Goals as goal

pub loop-place-preserved : goal.loop-place-preserved
loop-place-preserved c = (
  rw c.either-changes.ensures (round_on c.args.ground.now c.args.known.now.flags c.loop-place.known.flags _ c.loop-place.changes c.in_ok-more.more c.loop-place.place c.loop-place.invariant.0 c.in_ok-more.ensures.grows c.in_ok-more.ensures.done),
  c.in_ok-more.ensures.listed,
)

pub returns-clause-done : goal.returns-clause-done
returns-clause-done c = round_end c.args.ground.now c.args.known.now.flags c.loop-place.known.flags c.loop-place.changes c.loop-place.place c.loop-place-test.false c.loop-place.invariant.0
