use Rattle.cert_candidates.proofs.WritingLawsGoing.{top_begins, begins_ahead}
use Rattle.cert_candidates.proofs.writing_laws.standing.Goals as goal

pub returns : goal.returns
returns c = record { top = top_begins; ahead = begins_ahead }
