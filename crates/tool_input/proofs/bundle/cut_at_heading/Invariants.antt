use Rattle.std.proofs.Common.{◌≡◌, ◌≤◌, ◌++◌, take, drop, length, ◌-◌}
use Rattle.tool_input.specs.Bundle.{full_lines, parts_in, text_before}
use Rattle.tool_input.proofs.bundle.cut_at_heading.Given as goal

abbrev pub invariant-loop-at : goal.invariant-loop-at
invariant-loop-at l = record {
  within : l.at ≤ length l.input;
  text : take l.at l.input ++ text_before (full_lines (drop l.at l.input)) ≡ text_before (full_lines l.input);
  parts : parts_in (full_lines (drop l.at l.input)) ≡ parts_in (full_lines l.input);
}

abbrev pub decreases-loop-at : goal.decreases-loop-at
decreases-loop-at l = length l.input - l.at
