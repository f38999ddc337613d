use Rattle.std.proofs.Common.{◌-◌, length}
use Rattle.walk_steps.specs.Fronts as spec
use Rattle.walk_steps.proofs.fronts.measure.Given as goal

abbrev pub invariant-loop-next : goal.invariant-loop-next
invariant-loop-next l = spec.IsMeasured l.slots l.side l.parts l.next

abbrev pub decreases-loop-next : goal.decreases-loop-next
decreases-loop-next l = length l.parts - l.next.measured
