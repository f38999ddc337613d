use Rattle.sem_elsewhere.proofs.Pathing.{same_paths}
use Rattle.sem_elsewhere.proofs.laws.same_paths.Goals as goal

pub returns : goal.returns
returns c = same_paths
