use Rattle.walk_session.proofs.Crossing.{Session-send}
use Rattle.walk_session.proofs.laws.may_cross.Goals as goal

pub returns : goal.returns
returns c = Session-send
