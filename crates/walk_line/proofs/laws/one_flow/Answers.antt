use Rattle.walk_line.proofs.Flows.{one_flow}
use Rattle.walk_line.proofs.laws.one_flow.Goals as goal

pub returns : goal.returns
returns c = one_flow
