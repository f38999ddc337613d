use Rattle.cert_prove.proofs.Ordering.{ordered_is_right, ordered_is_refused}
use Rattle.cert_prove.proofs.laws.ordered_is_right.Goals as goal

pub returns : goal.returns
returns c = record { right = ordered_is_right; refused = ordered_is_refused }
