use Rattle.cert_rules.proofs.ViewsLearning.{only_made}
use Rattle.cert_rules.proofs.laws.only_made.Goals as goal

pub returns : goal.returns
returns c = λ methods ctx spot n format slots f h known complete knows g made. only_made methods ctx spot n format slots f h known complete knows g made
