use Rattle.cert_candidates.proofs.Example.{example_is_numbered}
use Rattle.cert_candidates.proofs.laws.an_example.Goals as goal

pub returns : goal.returns
returns c = example_is_numbered
