use Rattle.std.proofs.Common.{false}
use Rattle.cert_trees.proofs.SignaturesPassing.{kept_past, kept_more}
use Rattle.cert_trees.proofs.sets.kept.Goals as goal

pub returns-then-place-set : goal.returns-then-place-set
returns-then-place-set c = kept_past c.args.test c.args.tolds.now c.args.set.now c.loop-place.left _ c.loop-place.place c.if-place-set.true c.loop-place.invariant

pub loop-place-preserved : goal.loop-place-preserved
loop-place-preserved c =
    kept_more c.args.test c.args.tolds.now c.args.set.now c.loop-place.left c.push.new.self _ c.loop-place.place c.index-tolds-place.result false _ c.loop-place-test.true c.if-place-set.false c.index-tolds-place.is
    c.stays.ensures c.in_ok-push.ensures.ok c.loop-place.invariant
