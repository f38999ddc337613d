use Rattle.walk_line.proofs.Hearings.{heard_join}
use Rattle.walk_line.proofs.laws.heard_join.Goals as goal

pub returns : goal.returns
returns c = heard_join
