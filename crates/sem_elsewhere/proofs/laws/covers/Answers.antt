use Rattle.sem_elsewhere.proofs.Covering.{covers}
use Rattle.sem_elsewhere.proofs.laws.covers.Goals as goal

pub returns : goal.returns
returns c = covers
