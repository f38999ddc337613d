use Rattle.std.proofs.Common.{◌≢◌, ℕ, ◌+◌, ◌-◌, ◌<◌, ◌≤◌, length, get_or}
use Rattle.tool_input.proofs.bundle.first_line.Given as goal

abbrev pub invariant-loop-from : goal.invariant-loop-from
invariant-loop-from l = (l.from ≤ length l.input) × ((k : ℕ) → k < l.from → get_or l.input k 0 ≢ 10)

abbrev pub decreases-loop-from : goal.decreases-loop-from
decreases-loop-from l = length l.input - l.from

abbrev pub invariant-loop-k : goal.invariant-loop-k
invariant-loop-k l = (k : ℕ) → k < l.from + l.k → get_or l.input k 0 ≢ 10

abbrev pub invariant-loop-at : goal.invariant-loop-at
invariant-loop-at l = (k : ℕ) → k < l.at → get_or l.input k 0 ≢ 10
