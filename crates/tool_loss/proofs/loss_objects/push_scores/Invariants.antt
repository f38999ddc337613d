use Rattle.std.proofs.Common.{◌≡◌, ◌-◌, ◌++◌}
use Rattle.std.specs.List.{range_with_len}
use Rattle.std.specs.Prelude.{flat_map, string_bytes}
use Rattle.tool_loss.specs.LossObjects.{lost_line, score_lines}
use Rattle.tool_loss.proofs.loss_objects.push_scores.Given as goal

abbrev pub invariant-loop-lost : goal.invariant-loop-lost
invariant-loop-lost l = string_bytes l.output ++ flat_map (lost_line l.readings) (range_with_len l.lost (l.end - l.lost)) ≡ string_bytes l.fn.output ++ score_lines l.end l.readings
