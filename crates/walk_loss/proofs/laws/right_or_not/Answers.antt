use Rattle.walk_loss.proofs.Elsewhere.{right_or_not}
use Rattle.walk_loss.proofs.laws.right_or_not.Goals as goal

pub returns : goal.returns
returns c = right_or_not
