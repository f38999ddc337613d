use Rattle.walk_loss.proofs.Losing.{survives_losses_alike}
use Rattle.walk_loss.proofs.laws.survives_losses_alike.Goals as goal

pub returns : goal.returns
returns c = survives_losses_alike
