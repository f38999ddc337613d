use Rattle.text_resolve.proofs.ExcludedLimits.{no_cause_of_bounds}
use Rattle.text_resolve.proofs.laws.no_cause_of_bounds.Goals as goal

pub returns : goal.returns
returns c = no_cause_of_bounds
