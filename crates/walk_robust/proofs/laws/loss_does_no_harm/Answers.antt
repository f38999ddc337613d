use Rattle.walk_robust.proofs.Harmless.{loss_does_no_harm}
use Rattle.walk_robust.proofs.laws.loss_does_no_harm.Goals as goal

pub returns : goal.returns
returns c = loss_does_no_harm
