use Rattle.sem_graph.proofs.Marking.{more_marked}
use Rattle.sem_graph.proofs.marks.mark.Goals as goal

pub loop-name-preserved : goal.loop-name-preserved
loop-name-preserved c = rw c.set.ensures (more_marked _ _ _ _ c.loop-name.invariant c.loop-name-test.true c.requires)
