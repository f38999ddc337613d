use Rattle.cert_rules.proofs.ViewsDeterminate.{determinate}
use Rattle.cert_rules.proofs.laws.determinate.Goals as goal

pub returns : goal.returns
returns c = determinate
