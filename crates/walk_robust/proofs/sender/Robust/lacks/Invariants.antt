use Rattle.std.proofs.Common.{◌-◌}
use Rattle.walk_robust.proofs.Lackings.{LackTo}
use Rattle.walk_robust.proofs.sender.Robust.lacks.Given as goal

abbrev pub invariant-loop-next : goal.invariant-loop-next
invariant-loop-next l = LackTo l.accepted l.self.own l.self.others l.item l.from l.found

abbrev pub decreases-loop-next : goal.decreases-loop-next
decreases-loop-next l = l.count - l.from
