use Rattle.walk_session.proofs.ReadingBack.{session_read_back}
use Rattle.walk_session.proofs.laws.read_back.Goals as goal

pub returns : goal.returns
returns c = session_read_back
