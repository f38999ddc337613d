use Rattle.sem_elsewhere.proofs.Surviving.{loss_fits}
use Rattle.sem_elsewhere.proofs.laws.loss_fits.Goals as goal

pub returns : goal.returns
returns c = loss_fits
