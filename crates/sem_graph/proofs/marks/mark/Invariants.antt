use Rattle.sem_graph.proofs.Marking.{MarkedSo}
use Rattle.sem_graph.proofs.marks.mark.Given as goal

abbrev pub invariant-loop-name : goal.invariant-loop-name
invariant-loop-name l = MarkedSo l.initial.marks l.names l.name-index l.marks
