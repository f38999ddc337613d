use Rattle.sem_context.proofs.EntriesOverrides.{overridden-value, with_entry-present, with_entry-absent, overridden-distinct}
use Rattle.sem_context.proofs.laws.overriding.Goals as goal

pub returns : goal.returns
returns c = record { value = overridden-value; present = with_entry-present; absent = with_entry-absent; distinct = overridden-distinct }
