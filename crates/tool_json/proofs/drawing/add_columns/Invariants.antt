use Rattle.std.specs.Prelude.{◌≡◌, ◌++◌, drop}
use Rattle.tool_json.specs.Drawing.{columns_tokens}
use Rattle.tool_json.proofs.drawing.add_columns.Given as goal

abbrev pub invariant-loop-column : goal.invariant-loop-column
invariant-loop-column l = l.object ++ columns_tokens l.methods l.method l.format (drop l.column-index l.columns) ≡ l.fn.object ++ columns_tokens l.methods l.method l.format l.columns
