use Rattle.text_resolve.proofs.ExcludedCauses.{no_cause}
use Rattle.text_resolve.proofs.laws.no_cause.Goals as goal

pub returns : goal.returns
returns c = no_cause
