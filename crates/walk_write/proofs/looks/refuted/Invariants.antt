use Rattle.std.proofs.Common.{◌-◌}
use Rattle.walk_write.specs.Sources.{front}
use Rattle.walk_write.specs.Walking.{Passes}
use Rattle.walk_write.proofs.looks.refuted.Given as goal

abbrev pub invariant-loop-next : goal.invariant-loop-next
invariant-loop-next l = Passes l.place (front l.source) l.source.asked.now l.fn.number l.next

abbrev pub decreases-loop-next : goal.decreases-loop-next
decreases-loop-next l = l.last - l.next
