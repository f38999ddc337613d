use Rattle.walk_write.specs.Sources.{front}
use Rattle.walk_write.proofs.WalkingPast.{passed_on}
use Rattle.walk_write.proofs.looks.refuted.Goals as goal

pub loop-next-preserved : goal.loop-next-preserved
loop-next-preserved c =
    passed_on c.args.place.now (front c.args.source.now) c.args.source.now.asked.now c.args.number c.loop-next.next c.look_from.new.number c.loop-next.invariant c.in_ok-is_on.ensures.past
