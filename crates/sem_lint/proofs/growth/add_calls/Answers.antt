use Rattle.sem_lint.proofs.NeedsAdding.{calls_on}
use Rattle.sem_lint.proofs.growth.add_calls.Goals as goal

pub loop-field-preserved : goal.loop-field-preserved
loop-field-preserved c = (
  rw c.either-changes.ensures (calls_on c.args.ground.now c.args.path.now c.args.fields.now c.loop-field.field-index c.field-item.result c.args.known.now.flags c.loop-field.known.flags _ c.loop-field.changes c.in_ok-more.more c.loop-field-test.true c.field-item.is
      c.loop-field.invariant.0 c.in_ok-more.ensures.adds),
  c.in_ok-more.ensures.listed,
)
