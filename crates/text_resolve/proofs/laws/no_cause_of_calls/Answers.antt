use Rattle.text_resolve.proofs.ExcludedCalls.{no_cause_of_calls}
use Rattle.text_resolve.proofs.laws.no_cause_of_calls.Goals as goal

pub returns : goal.returns
returns c = no_cause_of_calls
