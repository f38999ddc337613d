use Rattle.std.proofs.Common.{◌≡◌, ◌-◌, ◌++◌, ◌≤◌, length, take}
use Rattle.walk_line.specs.Hearing.{Found}
use Rattle.walk_line.specs.States.{Hears}
use Rattle.walk_line.proofs.receiver.Receiver.feed.Given as goal

-- the octets so far were heard
abbrev pub invariant-loop-place : goal.invariant-loop-place
invariant-loop-place l = (l.place ≤ length l.piece) × (found : Found) × (l.out.items ≡ l.fn.out.items ++ found) × Hears l.fn.self l.self (take l.place l.piece) found

abbrev pub decreases-loop-place : goal.decreases-loop-place
decreases-loop-place l = length l.piece - l.place
