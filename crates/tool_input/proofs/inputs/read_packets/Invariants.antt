use Rattle.std.proofs.Common.{take}
use Rattle.tool_input.specs.Inputs.{AreRead, IsBits}
use Rattle.tool_input.proofs.InputLines.{shown}
use Rattle.tool_input.proofs.inputs.read_packets.Given as goal

-- the lines so far are read as the packets so far
abbrev pub invariant-loop-line : goal.invariant-loop-line
invariant-loop-line l = AreRead IsBits (shown (take l.line-index l.line-items)) l.inputs.items
