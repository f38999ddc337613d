use Rattle.walk_loss.proofs.Unserving.{fits_where_none_is_told}
use Rattle.walk_loss.proofs.laws.fits_where_none_is_told.Goals as goal

pub returns : goal.returns
returns c = fits_where_none_is_told
