use Rattle.sem_graph.proofs.CallsRanks.{ranked}
use Rattle.sem_graph.proofs.ranks.ranks_fall.Goals as goal

pub returns : goal.returns
returns c = ranked
