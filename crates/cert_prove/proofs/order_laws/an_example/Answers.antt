use Rattle.cert_prove.proofs.Example.{example_is_ordered}
use Rattle.cert_prove.proofs.order_laws.an_example.Goals as goal

pub returns : goal.returns
returns c = example_is_ordered
