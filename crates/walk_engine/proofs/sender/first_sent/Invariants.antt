use Rattle.std.proofs.Common.{◌-◌}
use Rattle.std.specs.Prelude.{IfSome}
use Rattle.walk_engine.proofs.Searching.{Searched}
use Rattle.walk_pages.specs.Kept.{IsKeptBy}
use Rattle.walk_engine.proofs.sender.first_sent.Given as goal

abbrev pub invariant-loop-number : goal.invariant-loop-number
invariant-loop-number l = Searched l.accepted l.context l.item 0 l.count l.number × IfSome l.last (IsKeptBy l.accepted l.context)

abbrev pub decreases-loop-number : goal.decreases-loop-number
decreases-loop-number l = l.count - l.number
