use Rattle.text_resolve.proofs.ExcludedMethods.{no_cause_of_methods}
use Rattle.text_resolve.proofs.laws.no_cause_of_methods.Goals as goal

pub returns : goal.returns
returns c = no_cause_of_methods
