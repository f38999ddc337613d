use Rattle.sem_elsewhere.proofs.Covering.{loss_proof_alike}
use Rattle.sem_elsewhere.proofs.laws.loss_proof_alike.Goals as goal

pub returns : goal.returns
returns c = loss_proof_alike
