use Rattle.cert_prove.proofs.RefusalsLemmas.{ordered_is_plan}
use Rattle.cert_prove.proofs.order_laws.ordered_is_plan.Goals as goal

pub returns : goal.returns
returns c = ordered_is_plan
