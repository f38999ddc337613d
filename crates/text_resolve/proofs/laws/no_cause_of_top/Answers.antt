use Rattle.text_resolve.proofs.ExcludedCalls.{no_cause_of_top}
use Rattle.text_resolve.proofs.laws.no_cause_of_top.Goals as goal

pub returns : goal.returns
returns c = no_cause_of_top
