use Rattle.sem_profile.proofs.FieldsRuling.{by-rules}
use Rattle.sem_profile.proofs.laws.bounds_by_rules.Goals as goal

pub returns : goal.returns
returns c = by-rules
