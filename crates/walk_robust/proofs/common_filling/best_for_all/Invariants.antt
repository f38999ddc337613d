use Rattle.std.proofs.Common.{◌-◌}
use Rattle.walk_robust.proofs.Searches.{Passed}
use Rattle.walk_robust.proofs.common_filling.best_for_all.Given as goal

abbrev pub invariant-loop-found : goal.invariant-loop-found
invariant-loop-found l = Passed l.accepted l.own l.others l.item l.from

abbrev pub decreases-loop-found : goal.decreases-loop-found
decreases-loop-found l = l.count - l.from
