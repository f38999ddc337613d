use Rattle.walk_steps.proofs.FindingMeasures.{constraint_counts}
use Rattle.walk_steps.proofs.length.constraint_length.Goals as goal

pub learn_count-requires-clause-counts : goal.learn_count-requires-clause-counts
learn_count-requires-clause-counts c =
    constraint_counts c.args.level_frame.now c.args.level.now c.args.field c.args.side c.args.constraint c.constraint_count-count.result c.requires.ready c.constraint_count-count.ensures
