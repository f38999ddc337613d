use Rattle.std.proofs.Common.{◌≡◌, List, [], ◌++◌, length}
use Rattle.tool_input.specs.Bundle.{AreGood, HoldsParts, Part, full_lines, parts_in, parts_of, text_before}
use Rattle.tool_input.proofs.bundle.split.Given as goal

abbrev pub invariant-loop-rest : goal.invariant-loop-rest
invariant-loop-rest l = record {
  begins : text_before (full_lines l.rest) ≡ [];
  parts : (before : List Part) × (before ++ parts_in (full_lines l.rest) ≡ parts_of l.input) × AreGood before × HoldsParts l.parts before;
}

abbrev pub decreases-loop-rest : goal.decreases-loop-rest
decreases-loop-rest l = length l.rest
