use Rattle.cert_accepted.proofs.StandingDepth.{calls_are_shallower}
use Rattle.cert_accepted.proofs.laws.calls_are_shallower.Goals as goal

pub returns : goal.returns
returns c = calls_are_shallower
