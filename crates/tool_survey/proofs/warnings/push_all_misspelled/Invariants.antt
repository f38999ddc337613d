use Rattle.std.proofs.Common.{◌≡◌, ◌++◌, drop}
use Rattle.std.specs.Prelude.{string_bytes}
use Rattle.tool_survey.specs.Warnings.{misspelled_lines}
use Rattle.tool_survey.proofs.warnings.push_all_misspelled.Given as goal

abbrev pub invariant-loop-name : goal.invariant-loop-name
invariant-loop-name l = string_bytes l.text ++ misspelled_lines l.places l.methods (drop l.name-index l.found) ≡ string_bytes l.fn.text ++ misspelled_lines l.places l.methods l.found
