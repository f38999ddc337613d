use Rattle.walk_loss.proofs.Elsewhere.{read_elsewhere}
use Rattle.walk_loss.proofs.laws.read_elsewhere.Goals as goal

pub returns : goal.returns
returns c = read_elsewhere
