use Rattle.sem_reasons.proofs.laws.reasons_are_true.Goals as goal
use Rattle.sem_reasons.proofs.ReasonsTrue.{reasons-are-true}

pub returns : goal.returns
returns c = reasons-are-true
