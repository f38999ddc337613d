use Rattle.walk_frames.proofs.Cuttings.{frames_are_cut}
use Rattle.walk_frames.proofs.laws.frames_are_cut.Goals as goal

pub returns : goal.returns
returns c = frames_are_cut
