use Rattle.std.proofs.Common.{length}
use Rattle.sem_graph.proofs.ranks.+rank.Given as goal

abbrev pub decreases-rank : goal.decreases-rank
decreases-rank l = length l.marks.now
