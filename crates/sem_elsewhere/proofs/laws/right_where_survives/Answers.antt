use Rattle.sem_elsewhere.proofs.Running.{right_where_survives}
use Rattle.sem_elsewhere.proofs.laws.right_where_survives.Goals as goal

pub returns : goal.returns
returns c = right_where_survives
