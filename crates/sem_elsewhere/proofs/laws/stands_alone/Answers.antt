use Rattle.sem_elsewhere.proofs.Alone.{fits_alone}
use Rattle.sem_elsewhere.proofs.laws.stands_alone.Goals as goal

pub returns : goal.returns
returns c = fits_alone
