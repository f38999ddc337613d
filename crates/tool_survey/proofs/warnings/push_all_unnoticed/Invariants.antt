use Rattle.std.proofs.Common.{◌≡◌, ◌++◌, drop}
use Rattle.std.specs.Prelude.{string_bytes}
use Rattle.tool_survey.specs.Warnings.{unnoticed_lines}
use Rattle.tool_survey.proofs.warnings.push_all_unnoticed.Given as goal

abbrev pub invariant-loop-format : goal.invariant-loop-format
invariant-loop-format l = string_bytes l.text ++ unnoticed_lines l.places l.methods (drop l.format-index l.found) ≡ string_bytes l.fn.text ++ unnoticed_lines l.places l.methods l.found
