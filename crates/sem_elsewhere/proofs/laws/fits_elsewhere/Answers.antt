use Rattle.sem_elsewhere.proofs.Moving.{fits_elsewhere}
use Rattle.sem_elsewhere.proofs.laws.fits_elsewhere.Goals as goal

pub returns : goal.returns
returns c = fits_elsewhere
