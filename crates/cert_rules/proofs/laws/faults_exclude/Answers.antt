use Rattle.cert_rules.proofs.Refusals.{faults_exclude}
use Rattle.cert_rules.proofs.laws.faults_exclude.Goals as goal

pub returns : goal.returns
returns c = faults_exclude
