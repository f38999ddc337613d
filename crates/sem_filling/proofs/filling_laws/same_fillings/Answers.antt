use Rattle.sem_filling.proofs.FillingsUnique.{same}
use Rattle.sem_filling.proofs.filling_laws.same_fillings.Goals as goal

pub returns : goal.returns
returns c = same
