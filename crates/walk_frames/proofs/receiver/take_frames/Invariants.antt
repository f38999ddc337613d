use Rattle.std.proofs.Common.{◌≡◌, ◌-◌, ◌++◌, length}
use Rattle.walk_frames.specs.Frames.{flow_limit}
use Rattle.walk_frames.specs.Receiving.{Found}
use Rattle.walk_frames.specs.States.{TakesTo}
use Rattle.walk_frames.proofs.receiver.take_frames.Given as goal

-- the frames so far were taken
abbrev pub invariant-loop-count : goal.invariant-loop-count
invariant-loop-count l = (length l.contexts.items ≡ flow_limit) × (found : Found) × (l.out.items ≡ l.fn.out.items ++ found) × TakesTo l.accepted l.fn.contexts.items l.contexts.items l.octets l.place found

abbrev pub decreases-loop-count : goal.decreases-loop-count
decreases-loop-count l = length l.octets - l.place
