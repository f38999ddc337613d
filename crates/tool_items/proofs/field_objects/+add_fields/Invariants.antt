use Rattle.std.proofs.Common.{◌++◌}
use Rattle.tool_names.specs.Names.{encoding_at}
use Rattle.tool_names.proofs.TableLists.{Goes}
use Rattle.tool_items.specs.FieldObjects.{listed}
use Rattle.tool_items.proofs.FieldObjectsListed.{format_in, tokens_at}
use Rattle.tool_items.proofs.field_objects.+add_fields.Given as goal

abbrev pub invariant-loop-i : goal.invariant-loop-i
invariant-loop-i l =
    Goes (λ p. tokens_at l.methods (encoding_at l.methods l.method (format_in l.filling) p.0) l.depth p.1) l.field-items l.i l.object (l.fn.object ++ (listed l.methods l.filling).tokens l.method l.depth)
