use Rattle.std.specs.Prelude.{◌++◌, string_bytes}
use Rattle.tool_names.proofs.TableLists.{Goes}
use Rattle.tool_loss.specs.LossObjects.{each_format, format_lines}
use Rattle.tool_loss.proofs.loss_objects.push_each_format.Given as goal

abbrev pub invariant-loop-number : goal.invariant-loop-number
invariant-loop-number l = Goes (λ f. format_lines l.methods l.top l.most l.readings f.0) l.formats l.number (string_bytes l.output) (string_bytes l.fn.output ++ each_format l.methods l.top l.most l.formats l.readings)
