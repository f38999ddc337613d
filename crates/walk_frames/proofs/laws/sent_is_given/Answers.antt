use Rattle.walk_frames.proofs.Givings.{sent_is_given}
use Rattle.walk_frames.proofs.laws.sent_is_given.Goals as goal

pub returns : goal.returns
returns c = sent_is_given
