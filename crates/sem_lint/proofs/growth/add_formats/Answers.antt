use Rattle.std.proofs.Common.{refl}
use Rattle.std.proofs.lemmas.Option.{slice_get_read}
use Rattle.sem_lint.proofs.NeedsAdding.{formats_end, formats_on}
use Rattle.sem_lint.proofs.growth.add_formats.Goals as goal

pub loop-number-preserved : goal.loop-number-preserved
loop-number-preserved c = (
  rw c.either-changes.ensures (formats_on c.args.ground.now c.args.known.now.flags c.loop-number.known.flags _ c.loop-number.changes c.in_ok-more.more c.args.place c.args.site.now c.args.formats.now c.loop-number.number c.index-formats-number.result
      (slice_get_read c.args.formats.now _ c.loop-number.number c.index-formats-number.result refl c.loop-number-test.true c.index-formats-number.is) c.loop-number.invariant.0 c.in_ok-more.ensures.grows c.in_ok-more.ensures.done),
  c.in_ok-more.ensures.listed,
)

pub returns-clause-done : goal.returns-clause-done
returns-clause-done c = formats_end c.args.ground.now c.args.known.now.flags c.loop-number.known.flags c.loop-number.changes c.args.place c.args.site.now c.args.formats.now c.loop-number.number c.loop-number-test.false c.loop-number.invariant.0
