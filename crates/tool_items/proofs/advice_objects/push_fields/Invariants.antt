use Rattle.std.specs.Prelude.{◌≡◌, ◌++◌, drop, string_bytes}
use Rattle.tool_items.specs.AdviceObjects.{field_lines}
use Rattle.tool_items.proofs.advice_objects.push_fields.Given as goal

abbrev pub invariant-loop-field : goal.invariant-loop-field
invariant-loop-field l = string_bytes l.output ++ field_lines (drop l.field-index l.fields) ≡ string_bytes l.fn.output ++ field_lines l.fields
