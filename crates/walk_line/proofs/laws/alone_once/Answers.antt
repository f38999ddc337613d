use Rattle.walk_line.proofs.Flows.{alone_once}
use Rattle.walk_line.proofs.laws.alone_once.Goals as goal

pub returns : goal.returns
returns c = alone_once
