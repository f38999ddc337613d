use Rattle.sem_elsewhere.proofs.Running.{heals}
use Rattle.sem_elsewhere.proofs.laws.heals.Goals as goal

pub returns : goal.returns
returns c = heals
