use Rattle.std.specs.Prelude.{◌++◌, string_bytes}
use Rattle.tool_names.proofs.TableLists.{Goes}
use Rattle.tool_json.specs.Drawing.{called_lines, others_lines}
use Rattle.tool_json.proofs.drawing.push_others.Given as goal

abbrev pub invariant-loop-index : goal.invariant-loop-index
invariant-loop-index l = Goes (λ m. called_lines l.profile m.0 m.1) l.profile.methods l.index (string_bytes l.output) (string_bytes l.fn.output ++ others_lines l.profile)
