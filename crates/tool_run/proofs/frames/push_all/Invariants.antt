use Rattle.std.specs.Prelude.{drop, string_bytes}
use Rattle.tool_run.proofs.FrameFlowing.{PushedSoFar}
use Rattle.tool_run.proofs.frames.push_all.Given as goal

-- the lines so far, and those of what is left
abbrev pub invariant-loop-flow : goal.invariant-loop-flow
invariant-loop-flow l = PushedSoFar l.methods l.found (drop l.flow-index l.found) (string_bytes l.fn.output) (string_bytes l.output)
