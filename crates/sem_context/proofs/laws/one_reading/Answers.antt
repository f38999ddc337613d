use Rattle.sem_context.proofs.EntriesReadings.{one_reading, no_fault}
use Rattle.sem_context.proofs.laws.one_reading.Goals as goal

pub returns : goal.returns
returns c = record { only = one_reading; no_fault = no_fault }
