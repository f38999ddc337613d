use Rattle.std.proofs.Common.{◌≡◌, drop, ◌+◌, ◌*◌}
use Rattle.walk_read.specs.Walking.{IsUnderWay, bits_of}
use Rattle.walk_read.proofs.walk.+reading.Given as goal

abbrev pub decreases-read_call : goal.decreases-read_call
decreases-read_call l = 5 * l.depth + 1

abbrev pub decreases-read_inner : goal.decreases-read_inner
decreases-read_inner l = 5 * l.depth

abbrev pub decreases-read_method : goal.decreases-read_method
decreases-read_method l = 5 * l.depth + 4

abbrev pub decreases-read_plan : goal.decreases-read_plan
decreases-read_plan l = 5 * l.depth + 3

abbrev pub decreases-read_step : goal.decreases-read_step
decreases-read_step l = 5 * l.depth + 2

abbrev pub invariant-read_plan-loop-step : goal.invariant-read_plan-loop-step
invariant-read_plan-loop-step l = (l.depth ≡ l.fn.depth) × IsUnderWay l.reading.place l.reading.level_frame.format (bits_of l.reading) (drop l.step-index l.plan) l.level
