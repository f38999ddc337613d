use Rattle.cert_rules.proofs.SlotsGrowing.{needs_known, grown_know}
use Rattle.cert_rules.proofs.laws.knowing.Goals as goal

pub returns : goal.returns
returns c = record { needs = needs_known; grown = grown_know }
