use Rattle.cert_prove.proofs.Ordering.{unplanned_has_no_plan, unparted_has_no_tree}
use Rattle.cert_prove.proofs.laws.unproved_has_none.Goals as goal

pub returns : goal.returns
returns c = record { plan = unplanned_has_no_plan; tree = unparted_has_no_tree }
