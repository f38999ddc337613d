use Rattle.std.proofs.Common.{◌≡◌, replicate}
use Rattle.walk_frames.specs.Sending.{fresh}
use Rattle.walk_frames.proofs.sender.fresh_senders.Given as goal

abbrev pub invariant-loop-i : goal.invariant-loop-i
invariant-loop-i l = l.senders.items ≡ replicate l._i (fresh l.lost)
