use Rattle.std.specs.Prelude.{◌++◌, string_bytes}
use Rattle.tool_survey.specs.Draw.{format_text, method_text}
use Rattle.tool_names.proofs.TableLists.{Goes}
use Rattle.tool_survey.proofs.draw.push_method.Given as goal

abbrev pub invariant-loop-format : goal.invariant-loop-format
invariant-loop-format l = Goes (λ f. format_text l.profile l.method f.0) l.formats l.format (string_bytes l.output) (string_bytes l.fn.output ++ method_text l.profile l.method l.formats)
