use Rattle.std.proofs.Common.{◌≡◌, ◌-◌, ◌++◌, map}
use Rattle.std.specs.List.{range_with_len}
use Rattle.tool_loss.specs.Loss.{lost_row, score_rows}
use Rattle.tool_loss.proofs.loss.add_scores.Given as goal

abbrev pub invariant-loop-lost : goal.invariant-loop-lost
invariant-loop-lost l = l.rows ++ map (lost_row l.readings) (range_with_len l.lost (l.end - l.lost)) ≡ l.fn.rows ++ score_rows l.end l.readings
