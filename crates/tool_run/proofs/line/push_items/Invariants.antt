use Rattle.std.specs.Prelude.{drop, string_bytes}
use Rattle.tool_run.proofs.LineFlowing.{PushedSoFar}
use Rattle.tool_run.proofs.line.push_items.Given as goal

-- the lines so far, and those of the items that are left
abbrev pub invariant-loop-flow : goal.invariant-loop-flow
invariant-loop-flow l = PushedSoFar l.items (drop l.flow-index l.items) (string_bytes l.fn.output) (string_bytes l.output)
