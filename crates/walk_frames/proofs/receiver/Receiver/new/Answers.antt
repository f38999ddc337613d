use Rattle.std.proofs.Common.{ap, length}
use Rattle.walk_frames.proofs.receiver.Receiver.new.Goals as goal

pub invariant_of-result : goal.invariant_of-result
invariant_of-result c = ap length c.in_ok-no_contexts.ensures
