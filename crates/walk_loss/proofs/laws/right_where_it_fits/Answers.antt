use Rattle.walk_loss.proofs.Verdicts.{right_where_it_fits}
use Rattle.walk_loss.proofs.laws.right_where_it_fits.Goals as goal

pub returns : goal.returns
returns c = right_where_it_fits
