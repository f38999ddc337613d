use Rattle.walk_frames.proofs.Givings.{given_once}
use Rattle.walk_frames.proofs.laws.given_once.Goals as goal

pub returns : goal.returns
returns c = given_once
