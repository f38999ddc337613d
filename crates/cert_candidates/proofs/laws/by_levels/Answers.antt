use Rattle.cert_candidates.proofs.CodesLevels.{code_is, number_is}
use Rattle.cert_candidates.proofs.laws.by_levels.Goals as goal

pub returns : goal.returns
returns c = record { code = code_is; number = number_is }
