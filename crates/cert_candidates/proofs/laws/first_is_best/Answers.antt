use Rattle.cert_candidates.proofs.CodesCompares.{first_is_best}
use Rattle.cert_candidates.proofs.laws.first_is_best.Goals as goal

pub returns : goal.returns
returns c = first_is_best
