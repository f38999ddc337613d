use Rattle.cert_rules.proofs.ViewsLearning.{start_has}
use Rattle.cert_rules.proofs.SlotsGrowing.{start_knows}
use Rattle.cert_rules.proofs.laws.start.Goals as goal

pub returns : goal.returns
returns c = record { has = start_has; knows = start_knows }
