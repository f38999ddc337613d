use Rattle.cert_candidates.proofs.WritingSingle.{one_numbered}
use Rattle.cert_candidates.proofs.writing_laws.one_numbered.Goals as goal

pub returns : goal.returns
returns c = one_numbered
