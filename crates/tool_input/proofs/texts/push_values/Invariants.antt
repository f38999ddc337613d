use Rattle.std.specs.Prelude.{drop, string_bytes}
use Rattle.tool_input.proofs.ItemsSpelled.{ValuesSoFar}
use Rattle.tool_input.proofs.texts.push_values.Given as goal

-- the text of the values so far, and that of the values that are left
abbrev pub invariant-loop-value : goal.invariant-loop-value
invariant-loop-value l = ValuesSoFar l.values (drop l.value-index l.values) (string_bytes l.fn.text) (string_bytes l.text)
