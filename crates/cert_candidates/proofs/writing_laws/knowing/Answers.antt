use Rattle.cert_candidates.proofs.Knowing.{start_known, needs_known, grown_known, common_known}
use Rattle.cert_candidates.proofs.writing_laws.knowing.Goals as goal

pub returns : goal.returns
returns c = record { start = start_known; needs = needs_known; grown = grown_known; common = common_known }
