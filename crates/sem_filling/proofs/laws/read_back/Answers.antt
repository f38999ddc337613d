use Rattle.sem_filling.proofs.Fronts.{reads_back}
use Rattle.sem_filling.proofs.laws.read_back.Goals as goal

pub returns : goal.returns
returns c = reads_back
