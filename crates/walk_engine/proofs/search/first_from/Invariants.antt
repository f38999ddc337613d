use Rattle.std.proofs.Common.{◌-◌}
use Rattle.walk_engine.proofs.Searching.{Searched}
use Rattle.walk_engine.proofs.search.first_from.Given as goal

abbrev pub invariant-loop-number : goal.invariant-loop-number
invariant-loop-number l = Searched l.accepted l.context l.item l.from l.count l.number

abbrev pub decreases-loop-number : goal.decreases-loop-number
decreases-loop-number l = l.count - l.number
