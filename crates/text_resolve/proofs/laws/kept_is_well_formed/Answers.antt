use Rattle.text_resolve.proofs.WellFormedSoundKept.{kept_well_formed}
use Rattle.text_resolve.proofs.laws.kept_is_well_formed.Goals as goal

pub returns : goal.returns
returns c = kept_well_formed
