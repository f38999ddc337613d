use Rattle.walk_robust.proofs.Resetting.{resets_are_held}
use Rattle.walk_robust.proofs.laws.resets_are_held.Goals as goal

pub returns : goal.returns
returns c = resets_are_held
