use Rattle.cert_rules.proofs.Worked.{mode_is_right, turn_is_right}
use Rattle.cert_rules.proofs.laws.worked.Goals as goal

pub returns : goal.returns
returns c = record { mode = mode_is_right; turn = turn_is_right }
