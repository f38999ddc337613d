use Rattle.walk_line.proofs.Hearings.{heard_once}
use Rattle.walk_line.proofs.laws.heard_once.Goals as goal

pub returns : goal.returns
returns c = heard_once
