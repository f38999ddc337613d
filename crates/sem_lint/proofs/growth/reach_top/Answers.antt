use Rattle.sem_lint.proofs.NeedsAdding.{top_reached}
use Rattle.sem_lint.proofs.growth.reach_top.Goals as goal

pub returns-clause-begun : goal.returns-clause-begun
returns-clause-begun c = top_reached c.args.ground.now c.args.known.now.flags _ c.in-Some.place _ c.requires.sites c.requires.none c.in-Some.ensures.found c.in_ok-note_reached.ensures.sets
