use Rattle.std.proofs.Common.{rules, ◌≡◌, length}
use Rattle.walk_write.specs.Closer.{LiesAt}
use Rattle.walk_write.proofs.CloserLemmas.{all_lie, each_next}
use Rattle.walk_write.proofs.closer.are_in.Goals as goal

pub loop-i-preserved : goal.loop-i-preserved
loop-i-preserved c = each_next (LiesAt c.args.ranges.now c.args.numbers.now) c.loop-i.i c.loop-i.invariant (c.is_in_at.ensures c.if-not-is_in_at.false)

pub returns : goal.returns
returns c = λ is.
    let count : length c.args.numbers.now ≡ length c.args.ranges.now = (search rules) in
    all_lie c.args.ranges.now c.args.numbers.now c.loop-i.i count (search rules) c.loop-i.invariant
