use Rattle.walk_frames.proofs.Cuttings.{stopped_once}
use Rattle.walk_frames.proofs.laws.stopped_once.Goals as goal

pub returns : goal.returns
returns c = stopped_once
