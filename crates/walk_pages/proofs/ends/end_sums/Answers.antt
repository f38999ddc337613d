use Rattle.walk_pages.proofs.Ending.{ended_trans}
use Rattle.walk_pages.proofs.ends.end_sums.Goals as goal

pub loop-i-preserved : goal.loop-i-preserved
loop-i-preserved c =
    ended_trans c.args.format.now c.args.arguments.now c.args.header.now c.args.fields.now c.loop-i.fields c.is_ended.new.fields c.loop-i.invariant (c.in_ok-is_ended.ensures c.if-not-branch.false)
