use Rattle.walk_frames.proofs.Cuttings.{cuts_join}
use Rattle.walk_frames.proofs.laws.cuts_join.Goals as goal

pub returns : goal.returns
returns c = cuts_join
