use Rattle.cert_prove.proofs.RefusalsLemmas.{stays_in_closure}
use Rattle.cert_prove.proofs.order_laws.stays_in_closure.Goals as goal

pub returns : goal.returns
returns c = stays_in_closure
