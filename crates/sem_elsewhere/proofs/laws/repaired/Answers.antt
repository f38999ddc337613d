use Rattle.sem_elsewhere.proofs.Agreeing.{repaired}
use Rattle.sem_elsewhere.proofs.laws.repaired.Goals as goal

pub returns : goal.returns
returns c = repaired
