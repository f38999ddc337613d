use Rattle.std.proofs.Common.{◌≡◌, ◌+◌, ◌-◌, ◌++◌}
use Rattle.std.specs.List.{range_with_len}
use Rattle.std.specs.Prelude.{flat_map, string_bytes}
use Rattle.tool_loss.specs.LossObjects.{case_lines, cases_lines}
use Rattle.tool_loss.proofs.loss_objects.push_cases.Given as goal

abbrev pub invariant-loop-lost : goal.invariant-loop-lost
invariant-loop-lost l =
    string_bytes l.output ++ flat_map (case_lines l.methods l.top l.cases) (range_with_len l.lost (l.most + 1 - l.lost)) ≡ string_bytes l.fn.output ++ cases_lines l.methods l.top l.most l.cases
