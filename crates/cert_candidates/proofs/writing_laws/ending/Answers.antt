use Rattle.cert_candidates.proofs.KnowingEnding.{writing_ends}
use Rattle.cert_candidates.proofs.WritingLawsGoing.{top_passes, top_refuses}
use Rattle.cert_candidates.proofs.writing_laws.ending.Goals as goal

pub returns : goal.returns
returns c = record { ends = writing_ends; passes = top_passes; refuses = top_refuses }
