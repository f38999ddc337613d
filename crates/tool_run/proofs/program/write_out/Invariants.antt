use Rattle.std.proofs.Common.{◌≤◌, ◌-◌, length, take}
use Rattle.std.specs.Io.KnownBytes.{Appends}
use Rattle.tool_input.specs.Counted.{MayTake}
use Rattle.tool_run.proofs.program.write_out.Given as goal

abbrev pub invariant-loop-at : goal.invariant-loop-at
invariant-loop-at g l = record {
  within : l.at ≤ length l.output;
  sent : Appends (g.W.CountedWrite.contents l.fn.writer) (g.W.CountedWrite.contents l.writer) (take l.at l.output);
  goes_on : MayTake (g.W.CountedWrite.is_over l.writer);
}

abbrev pub decreases-loop-at : goal.decreases-loop-at
decreases-loop-at g l = length l.output - l.at
