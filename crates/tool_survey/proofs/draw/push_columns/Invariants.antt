use Rattle.std.proofs.Common.{◌≡◌, ◌++◌, drop}
use Rattle.std.specs.Prelude.{string_bytes}
use Rattle.tool_survey.specs.Draw.{columns_text}
use Rattle.tool_survey.proofs.draw.push_columns.Given as goal

abbrev pub invariant-loop-column : goal.invariant-loop-column
invariant-loop-column l =
    string_bytes l.output ++ columns_text l.methods l.method l.format (drop l.column-index l.columns) ≡ string_bytes l.fn.output ++ columns_text l.methods l.method l.format l.columns
