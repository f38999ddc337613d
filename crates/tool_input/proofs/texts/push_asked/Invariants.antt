use Rattle.std.specs.Prelude.{drop, map, string_bytes}
use Rattle.sem_filling.specs.Fillings.{asked_values, sides_of}
use Rattle.tool_input.proofs.ItemsSpelled.{ValuesSoFar}
use Rattle.tool_input.proofs.texts.push_asked.Given as goal

-- the text of the values so far, and that of the fields that are left
abbrev pub invariant-loop-field : goal.invariant-loop-field
invariant-loop-field l = ValuesSoFar (asked_values (map sides_of l.fields)) (asked_values (map sides_of (drop l.field-index l.fields))) (string_bytes l.fn.text) (string_bytes l.text)
