use Rattle.sem_filling.proofs.FitsSides.{splits}
use Rattle.sem_filling.proofs.laws.front_splits.Goals as goal

pub returns : goal.returns
returns c = splits
