use Rattle.std.proofs.Common.{◌≡◌, ◌++◌, drop, map}
use Rattle.std.specs.Prelude.{string_bytes}
use Rattle.tool_survey.specs.Warnings.{unknown_lines}
use Rattle.tool_survey.proofs.warnings.push_all_unknown.Given as goal

abbrev pub invariant-loop-path : goal.invariant-loop-path
invariant-loop-path l = string_bytes l.text ++ unknown_lines (map (λ p. p.now) (drop l.path-index l.paths)) ≡ string_bytes l.fn.text ++ unknown_lines (map (λ p. p.now) l.paths)
