use Rattle.walk_session.proofs.ReadingHeld.{lost_held}
use Rattle.walk_session.proofs.laws.lost_held.Goals as goal

pub returns : goal.returns
returns c = lost_held
