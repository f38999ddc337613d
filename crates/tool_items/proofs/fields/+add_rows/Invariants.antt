use Rattle.std.proofs.Common.{◌++◌, map, replicate}
use Rattle.tool_items.specs.Fields.{listed}
use Rattle.tool_names.specs.Names.{encoding_at}
use Rattle.tool_items.specs.Rows.{row_of}
use Rattle.tool_items.proofs.FieldsListed.{format_in, rows_at}
use Rattle.tool_names.proofs.TableLists.{Goes}
use Rattle.tool_items.proofs.fields.+add_rows.Given as goal

abbrev pub invariant-loop-i : goal.invariant-loop-i
invariant-loop-i l =
    Goes (λ p. rows_at l.methods (encoding_at l.methods l.method (format_in l.filling) p.0) (replicate l.indent 32) p.1) l.field-items l.i (map row_of l.rows) (map row_of l.fn.rows ++ (listed l.methods l.filling).rows l.method (replicate l.indent 32))
