use Rattle.walk_robust.proofs.Harmless.{as_pack}
use Rattle.walk_robust.proofs.laws.as_pack.Goals as goal

pub returns : goal.returns
returns c = as_pack
