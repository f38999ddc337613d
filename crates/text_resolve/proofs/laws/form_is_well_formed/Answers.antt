use Rattle.text_resolve.proofs.SoundMethods.{well_formed}
use Rattle.text_resolve.proofs.laws.form_is_well_formed.Goals as goal

pub returns : goal.returns
returns c = well_formed
