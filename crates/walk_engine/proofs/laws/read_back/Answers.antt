use Rattle.walk_engine.proofs.ReadingBack.{read_back}
use Rattle.walk_engine.proofs.laws.read_back.Goals as goal

pub returns : goal.returns
returns c = read_back
