use Rattle.walk_loss.proofs.Elsewhere.{fits_by_references}
use Rattle.walk_loss.proofs.laws.fits_by_references.Goals as goal

pub returns : goal.returns
returns c = fits_by_references
