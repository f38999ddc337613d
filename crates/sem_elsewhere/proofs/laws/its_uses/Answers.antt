use Rattle.sem_elsewhere.proofs.Listing.{are_its_uses}
use Rattle.sem_elsewhere.proofs.laws.its_uses.Goals as goal

pub returns : goal.returns
returns c = are_its_uses
