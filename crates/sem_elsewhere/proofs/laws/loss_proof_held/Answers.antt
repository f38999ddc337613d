use Rattle.sem_elsewhere.proofs.Holdings.{loss_proof_held}
use Rattle.sem_elsewhere.proofs.laws.loss_proof_held.Goals as goal

pub returns : goal.returns
returns c = loss_proof_held
