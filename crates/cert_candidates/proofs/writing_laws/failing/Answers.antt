use Rattle.cert_candidates.proofs.WritingLawsGoing.{writing_fails, call_fails_law}
use Rattle.cert_candidates.proofs.writing_laws.failing.Goals as goal

pub returns : goal.returns
returns c = record { step = writing_fails; call = call_fails_law }
