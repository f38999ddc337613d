use Rattle.walk_frames.proofs.Hearings.{each_is_sent_alone}
use Rattle.walk_frames.proofs.laws.each_is_sent_alone.Goals as goal

pub returns : goal.returns
returns c = each_is_sent_alone
