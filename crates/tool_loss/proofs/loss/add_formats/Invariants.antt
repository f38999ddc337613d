use Rattle.std.proofs.Common.{◌++◌}
use Rattle.tool_loss.specs.Loss.{format_rows, formats_rows}
use Rattle.tool_names.proofs.TableLists.{Goes}
use Rattle.tool_loss.proofs.loss.add_formats.Given as goal

abbrev pub invariant-loop-number : goal.invariant-loop-number
invariant-loop-number l = Goes (λ f. format_rows l.methods l.top l.most l.readings f.0) l.formats l.number l.rows (l.fn.rows ++ formats_rows l.methods l.top l.most l.formats l.readings)
