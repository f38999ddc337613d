use Rattle.sem_filling.proofs.EntriesLevels.{entries_are}
use Rattle.sem_filling.proofs.filling_laws.entries_by_levels.Goals as goal

pub returns : goal.returns
returns c = entries_are
