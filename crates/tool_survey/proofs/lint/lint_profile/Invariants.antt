use Rattle.std.proofs.Common.{◌≡◌, ◌++◌, drop}
use Rattle.std.specs.Prelude.{string_bytes}
use Rattle.tool_survey.specs.Lint as spec
use Rattle.tool_survey.proofs.lint.lint_profile.Given as goal

abbrev pub invariant-loop-dead : goal.invariant-loop-dead
invariant-loop-dead l = string_bytes l.output ++ spec.lint_text l.octets l.profile (drop l.dead-index l.dead-items) ≡ spec.lint_text l.octets l.profile l.dead-items
