use Rattle.walk_loss.proofs.Losing.{survives_losses}
use Rattle.walk_loss.proofs.laws.survives_losses.Goals as goal

pub returns : goal.returns
returns c = survives_losses
