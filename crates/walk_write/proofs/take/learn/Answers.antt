use Rattle.walk_write.proofs.WalkingLearning.{refuses}
use Rattle.walk_write.proofs.take.learn.Goals as goal

pub returns-else-learn-clause-fault : goal.returns-else-learn-clause-fault
returns-else-learn-clause-fault c =
    refuses c.args.level_frame.now c.args.level.now c.args.field c.args.bits c.keeps.ensures c.keeps-2.ensures c.requires.at c.requires.within (c.learn.ensures.refused c.if-learn.false)
