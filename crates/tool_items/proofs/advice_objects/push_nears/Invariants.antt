use Rattle.std.specs.Prelude.{◌≡◌, ◌++◌, drop, string_bytes}
use Rattle.tool_items.specs.AdviceObjects.{near_lines}
use Rattle.tool_items.proofs.advice_objects.push_nears.Given as goal

abbrev pub invariant-loop-near : goal.invariant-loop-near
invariant-loop-near l = string_bytes l.output ++ near_lines (drop l.near-index l.nears) ≡ string_bytes l.fn.output ++ near_lines l.nears
