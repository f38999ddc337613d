use Rattle.std.proofs.Common.{◌≡◌, ◌++◌, drop}
use Rattle.std.specs.Prelude.{string_bytes}
use Rattle.tool_survey.specs.Warnings.{unlike_lines}
use Rattle.tool_survey.proofs.warnings.push_all_unlike.Given as goal

abbrev pub invariant-loop-call : goal.invariant-loop-call
invariant-loop-call l = string_bytes l.text ++ unlike_lines l.places l.methods (drop l.call-index l.found) ≡ string_bytes l.fn.text ++ unlike_lines l.places l.methods l.found
