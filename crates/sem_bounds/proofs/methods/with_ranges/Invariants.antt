use Rattle.std.proofs.Common.{◌≤◌, length}
use Rattle.sem_profile.specs.Methods.{SizedBefore}
use Rattle.sem_profile.specs.Parameters.{RangedFrom}
use Rattle.sem_bounds.proofs.methods.with_ranges.Given as goal

abbrev pub invariant-loop-left : goal.invariant-loop-left
invariant-loop-left l = (l.left ≤ length l.order) × SizedBefore l.methods l.order (length l.order) l.table.items × RangedFrom l.none l.methods l.order l.left l.table.items

abbrev pub decreases-loop-left : goal.decreases-loop-left
decreases-loop-left l = l.left
