use Rattle.std.proofs.Common.{◌≡◌, ◌++◌, length, reverse}
use Rattle.sem_profile.proofs.reversal.reversed.Given as goal

abbrev pub invariant-loop-item : goal.invariant-loop-item
invariant-loop-item g l = l.turned ++ reverse l.items ≡ reverse l.fn.items

abbrev pub decreases-loop-item : goal.decreases-loop-item
decreases-loop-item g l = length l.items
