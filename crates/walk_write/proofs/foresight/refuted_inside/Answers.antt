use Rattle.walk_write.specs.Sources.{front}
use Rattle.walk_write.proofs.ForesightLemmas.{more_inside}
use Rattle.walk_write.proofs.foresight.refuted_inside.Goals as goal

pub loop-next-preserved : goal.loop-next-preserved
loop-next-preserved c =
    let inside = rw c.in-Some.is at c.in_ok-many.ensures in (
      inside.within c.args.count c.requires.counted,
      more_inside c.args.outlook.now.place.now c.args.outlook.now.index c.args.outlook.now.format.now c.args.called.now.index c.args.called.now.field.now c.args.called.now.method c.args.called.now.arguments.now (front c.args.outlook.now.source.now) c.args.number c.loop-next.next c.in-Some.many c.loop-next.invariant.1 inside,
    )
