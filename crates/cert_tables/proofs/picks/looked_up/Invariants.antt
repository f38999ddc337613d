use Rattle.std.proofs.Common.{◌≤◌, ◌-◌, drop, length}
use Rattle.cert_tables.specs.Walking.{IsSame}
use Rattle.cert_tables.proofs.picks.looked_up.Given as goal

abbrev pub invariant-loop-next : goal.invariant-loop-next
invariant-loop-next l = IsSame (drop l.from l.cursor.left) l.nodes l.place l.here × (l.place ≤ l.here)

abbrev pub decreases-loop-next : goal.decreases-loop-next
decreases-loop-next l = length l.nodes - l.here
