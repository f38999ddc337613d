use Rattle.cert_rules.proofs.Example.{plain_is_valid}
use Rattle.cert_rules.proofs.laws.an_example.Goals as goal

pub returns : goal.returns
returns c = plain_is_valid
