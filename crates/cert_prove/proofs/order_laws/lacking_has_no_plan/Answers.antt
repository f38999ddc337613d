use Rattle.cert_prove.proofs.RefusalsLemmas.{lacking_has_no_plan, lacking_is_not_valid}
use Rattle.cert_prove.proofs.order_laws.lacking_has_no_plan.Goals as goal

pub returns : goal.returns
returns c = record { plan = lacking_has_no_plan; certificate = lacking_is_not_valid }
