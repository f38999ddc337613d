use Rattle.sem_filling.proofs.Fronts.{short_sides}
use Rattle.sem_filling.proofs.laws.sides_are_short.Goals as goal

pub returns : goal.returns
returns c = short_sides
