use Rattle.sem_filling.proofs.FitsSides.{header_splits}
use Rattle.sem_filling.proofs.laws.header_splits.Goals as goal

pub returns : goal.returns
returns c = header_splits
