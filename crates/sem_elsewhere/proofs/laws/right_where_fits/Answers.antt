use Rattle.sem_elsewhere.proofs.Running.{right_where_fits}
use Rattle.sem_elsewhere.proofs.laws.right_where_fits.Goals as goal

pub returns : goal.returns
returns c = right_where_fits
