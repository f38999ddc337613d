use Rattle.cert_rules.proofs.RulesVersions.{rules_go_on, plans_go_on}
use Rattle.cert_rules.proofs.laws.versions.Goals as goal

pub returns : goal.returns
returns c = record { rules = rules_go_on; plans = plans_go_on }
