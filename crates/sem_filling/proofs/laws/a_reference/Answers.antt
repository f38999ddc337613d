use Rattle.sem_filling.proofs.FitsSides.{references}
use Rattle.sem_filling.proofs.laws.a_reference.Goals as goal

pub returns : goal.returns
returns c = references
