use Rattle.sem_filling.proofs.Bounding.{lie-in-bounds}
use Rattle.sem_filling.proofs.laws.lengths_lie_in_bounds.Goals as goal

pub returns : goal.returns
returns c = lie-in-bounds
