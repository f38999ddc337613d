use Rattle.std.specs.Prelude.{string_bytes}
use Rattle.tool_survey.specs.Warnings.{factor_text, factors_text}
use Rattle.tool_names.proofs.TableLists.{Goes}
use Rattle.tool_survey.proofs.warnings.factors_text.Given as goal

abbrev pub invariant-loop-place : goal.invariant-loop-place
invariant-loop-place l = Goes (λ f. factor_text l.methods l.method l.format f.0 f.1) l.found l.place (string_bytes l.text) (factors_text l.methods l.method l.format l.found)
