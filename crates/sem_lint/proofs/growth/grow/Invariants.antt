use Rattle.std.proofs.Common.{◌≡◌, ℕ, ◌+◌, ◌*◌, false}
use Rattle.std.specs.Prelude.{if◌then◌else◌}
use Rattle.sem_lint.specs.NeedsSteps as steps
use Rattle.sem_lint.proofs.growth.grow.Given as goal
use Rattle.sem_lint.specs.Entries as entries

abbrev pub invariant-loop-changes : goal.invariant-loop-changes
invariant-loop-changes l = steps.IsBegun l.ground l.known.flags × (l.changes ≡ false → (j : ℕ) → steps.AreDone l.ground l.known.flags j) × entries.IsListed l.ground l.known

abbrev pub decreases-loop-changes : goal.decreases-loop-changes
decreases-loop-changes l = 2 * steps.count_unset l.known.flags + (if l.changes then 1 else 0)
