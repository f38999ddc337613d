use Rattle.std.specs.Prelude.{◌≡◌, ◌++◌, drop, string_bytes}
use Rattle.tool_items.specs.AdviceObjects.{own_lines}
use Rattle.tool_items.proofs.advice_objects.push_owns.Given as goal

abbrev pub invariant-loop-own : goal.invariant-loop-own
invariant-loop-own l = string_bytes l.output ++ own_lines (drop l.own-index l.owns) ≡ string_bytes l.fn.output ++ own_lines l.owns
