use Rattle.std.proofs.Common.{◌≡◌, ◌+◌, ◌-◌, ◌++◌}
use Rattle.std.specs.List.{range_with_len}
use Rattle.std.specs.Prelude.{flat_map, string_bytes}
use Rattle.tool_loss.specs.Loss.{case_lines, cases_text}
use Rattle.tool_loss.proofs.loss.push_cases.Given as goal

abbrev pub invariant-loop-lost : goal.invariant-loop-lost
invariant-loop-lost l =
    string_bytes l.text ++ flat_map (case_lines l.methods l.top l.cases) (range_with_len l.lost (l.most + 1 - l.lost)) ≡ string_bytes l.fn.text ++ cases_text l.methods l.top l.most l.cases
