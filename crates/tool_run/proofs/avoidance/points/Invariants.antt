use Rattle.std.proofs.Common.{◌≡◌, map, take}
use Rattle.tool_run.specs.Avoidance.{point}
use Rattle.tool_run.proofs.avoidance.points.Given as goal

abbrev pub invariant-loop-value : goal.invariant-loop-value
invariant-loop-value l = l.ranges.items ≡ map point (take l.value-index l.values)
