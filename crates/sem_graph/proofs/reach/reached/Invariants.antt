use Rattle.std.proofs.Common.{◌-◌, length}
use Rattle.sem_graph.specs.Calls.{marked}
use Rattle.sem_graph.proofs.CallsWork.{Work}
use Rattle.sem_graph.proofs.reach.reached.Given as goal

abbrev pub invariant-loop-next : goal.invariant-loop-next
invariant-loop-next l = Work l.calls l.from l.found l.done

abbrev pub decreases-loop-next : goal.decreases-loop-next
decreases-loop-next l = length l.calls - marked l.done
