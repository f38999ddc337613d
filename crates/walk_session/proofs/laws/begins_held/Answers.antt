use Rattle.walk_session.proofs.ReadingHeld.{begins_held}
use Rattle.walk_session.proofs.laws.begins_held.Goals as goal

pub returns : goal.returns
returns c = begins_held
