use Rattle.std.proofs.Common.{◌≡◌, drop}
use Rattle.tool_names.specs.Obstacles as spec
use Rattle.tool_names.proofs.obstacles.first_bracket.Given as goal

abbrev pub invariant-loop-constraint : goal.invariant-loop-constraint
invariant-loop-constraint l = spec.first_bracket l.field l.side (drop l.constraint-index l.constraints) ≡ spec.first_bracket l.field l.side l.constraints
