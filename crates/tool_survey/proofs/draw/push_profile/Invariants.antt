use Rattle.std.specs.Prelude.{◌++◌, string_bytes}
use Rattle.tool_survey.specs.Draw.{called_text, drawn}
use Rattle.tool_names.proofs.TableLists.{Goes}
use Rattle.tool_survey.proofs.draw.push_profile.Given as goal

abbrev pub invariant-loop-index : goal.invariant-loop-index
invariant-loop-index l = Goes (λ m. called_text l.profile m.0 m.1) l.profile.methods l.index (string_bytes l.output) (string_bytes l.fn.output ++ drawn l.profile)
