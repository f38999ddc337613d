use Rattle.cert_rules.proofs.Counts.{one_count}
use Rattle.cert_rules.proofs.laws.one_count.Goals as goal

pub returns : goal.returns
returns c = one_count
