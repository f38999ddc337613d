use Rattle.sem_graph.proofs.Measuring.{Heavy}
use Rattle.sem_graph.proofs.weight.weights.Given as goal

abbrev pub invariant-loop-method : goal.invariant-loop-method
invariant-loop-method l = Heavy l.methods l.order l.method-index l.weights
