use Rattle.std.proofs.Common.{◌≡◌, ◌++◌, drop}
use Rattle.std.specs.Prelude.{string_bytes}
use Rattle.tool_items.specs.Why.{lines_text}
use Rattle.tool_items.proofs.why.push_lines.Given as goal

abbrev pub invariant-loop-line : goal.invariant-loop-line
invariant-loop-line l = string_bytes l.output ++ lines_text l.places l.profile l.asked (drop l.line-index l.lines) ≡ string_bytes l.fn.output ++ lines_text l.places l.profile l.asked l.lines
