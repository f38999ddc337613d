use Rattle.std.proofs.Common.{◌≡◌, ◌++◌, drop}
use Rattle.std.specs.Prelude.{string_bytes}
use Rattle.tool_survey.specs.Warnings.{needing_lines}
use Rattle.tool_survey.proofs.warnings.push_all_needing.Given as goal

abbrev pub invariant-loop-needing : goal.invariant-loop-needing
invariant-loop-needing l = string_bytes l.text ++ needing_lines l.places l.methods (drop l.needing-index l.found) ≡ string_bytes l.fn.text ++ needing_lines l.places l.methods l.found
