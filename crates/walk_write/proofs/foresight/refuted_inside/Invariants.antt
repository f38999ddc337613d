use Rattle.std.proofs.Common.{◌-◌, ◌≤◌}
use Rattle.walk_write.specs.Sources.{front}
use Rattle.walk_write.proofs.ForesightLemmas.{Inside_past}
use Rattle.walk_write.proofs.foresight.refuted_inside.Given as goal

abbrev pub invariant-loop-next : goal.invariant-loop-next
invariant-loop-next l = (l.next ≤ l.count) × Inside_past l.outlook.place.now l.outlook.index l.outlook.format.now l.called.index l.called.field.now l.called.method l.called.arguments.now (front l.outlook.source.now) l.fn.number l.next

abbrev pub decreases-loop-next : goal.decreases-loop-next
decreases-loop-next l = l.count - l.next
