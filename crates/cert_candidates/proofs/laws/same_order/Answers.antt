use Rattle.cert_candidates.proofs.CodesCompares.{same_order}
use Rattle.cert_candidates.proofs.laws.same_order.Goals as goal

pub returns : goal.returns
returns c = same_order
