use Rattle.sem_filling.proofs.FitsSides.{by_level}
use Rattle.sem_filling.proofs.laws.determined_by_level.Goals as goal

pub returns : goal.returns
returns c = by_level
