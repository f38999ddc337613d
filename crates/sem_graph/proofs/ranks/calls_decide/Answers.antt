use Rattle.sem_graph.proofs.OrderBackward.{decide}
use Rattle.sem_graph.proofs.ranks.calls_decide.Goals as goal

pub returns : goal.returns
returns c = decide
