use Rattle.cert_candidates.proofs.CodesFitting.{is_candidate}
use Rattle.cert_candidates.proofs.laws.fitting_are_candidates.Goals as goal

pub returns : goal.returns
returns c = λ methods table top version cert are valid counts ctx k args path f fits. is_candidate methods table top version cert are valid counts ctx fits
