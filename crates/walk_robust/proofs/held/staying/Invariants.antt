use Rattle.std.proofs.Common.{◌≡◌, ◌+◌, ◌≤◌, length, drop}
use Rattle.walk_robust.specs.Sending.{stayed}
use Rattle.walk_robust.proofs.held.staying.Given as goal

-- those so far and those of the rest are those of all
abbrev pub invariant-loop-i : goal.invariant-loop-i
invariant-loop-i l = (l.count ≤ l.i) × (l.count + length (stayed l.lost (drop l.i l.held)) ≡ length (stayed l.lost l.held))
