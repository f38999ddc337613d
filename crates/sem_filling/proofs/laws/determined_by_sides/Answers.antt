use Rattle.sem_filling.proofs.FitsSides.{by_sides}
use Rattle.sem_filling.proofs.laws.determined_by_sides.Goals as goal

pub returns : goal.returns
returns c = by_sides
