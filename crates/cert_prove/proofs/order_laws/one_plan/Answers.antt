use Rattle.cert_prove.proofs.OrderedSingle.{one_ordered_plan, passing_is_above}
use Rattle.cert_prove.proofs.order_laws.one_plan.Goals as goal

pub returns : goal.returns
returns c = record { one = one_ordered_plan; limit = passing_is_above }
