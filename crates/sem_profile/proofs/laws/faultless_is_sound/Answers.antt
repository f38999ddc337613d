use Rattle.sem_profile.proofs.FaultsFaultless.{faultless}
use Rattle.sem_profile.proofs.laws.faultless_is_sound.Goals as goal

pub returns : goal.returns
returns c = faultless
