use Rattle.cert_candidates.proofs.WritingLawsGoing.{writing_starts, writing_passes, writing_chooses, writing_calls}
use Rattle.cert_candidates.proofs.writing_laws.going_on.Goals as goal

pub returns : goal.returns
returns c = record { starts = writing_starts; passes = writing_passes; chooses = writing_chooses; calls = writing_calls }
