use Rattle.sem_context.proofs.EntriesOverrides.{overridden-value}
use Rattle.sem_filling.specs.Entries.{entries}
use Rattle.sem_filling.proofs.filling_laws.next_by_paths.Goals as goal

pub returns : goal.returns
returns c ctx f path = overridden-value ctx (entries f) path
