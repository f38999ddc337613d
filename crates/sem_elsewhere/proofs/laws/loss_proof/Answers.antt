use Rattle.sem_elsewhere.proofs.Surviving.{loss_proof}
use Rattle.sem_elsewhere.proofs.laws.loss_proof.Goals as goal

pub returns : goal.returns
returns c = loss_proof
