use Rattle.sem_filling.proofs.FitsArguments.{lie-in-ranges}
use Rattle.sem_filling.proofs.laws.arguments_lie_in_ranges.Goals as goal

pub returns : goal.returns
returns c = lie-in-ranges
