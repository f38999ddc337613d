use Rattle.walk_line.proofs.Flows.{same_packets}
use Rattle.walk_line.proofs.laws.same_packets.Goals as goal

pub returns : goal.returns
returns c = same_packets
