use Rattle.sem_elsewhere.proofs.Moving.{needs_nothing}
use Rattle.sem_elsewhere.proofs.laws.needs_nothing.Goals as goal

pub returns : goal.returns
returns c = needs_nothing
