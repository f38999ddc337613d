use Rattle.cert_candidates.proofs.BestOrder.{best_is_one}
use Rattle.cert_candidates.proofs.laws.best_is_one.Goals as goal

pub returns : goal.returns
returns c = best_is_one
