use Rattle.std.proofs.Common.{◌≡◌, drop, ◌+◌, ◌*◌}
use Rattle.walk_write.specs.Going.{IsGoing}
use Rattle.walk_write.proofs.walk.+writing.Given as goal

abbrev pub decreases-write_method : goal.decreases-write_method
decreases-write_method l = 6 * l.depth + 5

abbrev pub decreases-write_format : goal.decreases-write_format
decreases-write_format l = 6 * l.depth + 4

abbrev pub decreases-follow : goal.decreases-follow
decreases-follow l = 6 * l.depth + 3

abbrev pub decreases-write_step : goal.decreases-write_step
decreases-write_step l = 6 * l.depth + 2

abbrev pub decreases-write_call : goal.decreases-write_call
decreases-write_call l = 6 * l.depth + 1

abbrev pub decreases-write_inner : goal.decreases-write_inner
decreases-write_inner l = 6 * l.depth

abbrev pub invariant-follow-loop-step : goal.invariant-follow-loop-step
invariant-follow-loop-step l = IsGoing l.writing.accepted.now l.writing.level_frame (drop l.writing.source.from l.writing.source.cursor.now.left) l.writing.source.asked.now (drop l.step-index l.plan) l.number l.digits l.level × (l.level.args ≡ l.fn.level.args)
