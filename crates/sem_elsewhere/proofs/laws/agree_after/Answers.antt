use Rattle.sem_elsewhere.proofs.Agreeing.{agree_after}
use Rattle.sem_elsewhere.proofs.laws.agree_after.Goals as goal

pub returns : goal.returns
returns c = agree_after
