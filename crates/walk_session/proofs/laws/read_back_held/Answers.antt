use Rattle.walk_session.proofs.ReadingHeld.{read_back_held}
use Rattle.walk_session.proofs.laws.read_back_held.Goals as goal

pub returns : goal.returns
returns c = read_back_held
