use Rattle.walk_frames.proofs.Cuttings.{cut_once}
use Rattle.walk_frames.proofs.laws.cut_once.Goals as goal

pub returns : goal.returns
returns c = cut_once
