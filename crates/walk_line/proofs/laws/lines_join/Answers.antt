use Rattle.walk_line.proofs.Flows.{lines_join}
use Rattle.walk_line.proofs.laws.lines_join.Goals as goal

pub returns : goal.returns
returns c = lines_join
