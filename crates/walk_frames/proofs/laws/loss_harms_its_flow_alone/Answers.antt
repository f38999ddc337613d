use Rattle.walk_frames.proofs.Losses.{loss_harms_its_flow_alone}
use Rattle.walk_frames.proofs.laws.loss_harms_its_flow_alone.Goals as goal

pub returns : goal.returns
returns c = loss_harms_its_flow_alone
