use Rattle.std.proofs.Common.{◌+◌, ◌-◌, ◌<◌, vec_len}
use Rattle.std.specs.Io.KnownBytes.{Consumes}
use Rattle.tool_input.specs.Counted.{IsSoFar}
use Rattle.tool_input.specs.Counted.{most_octets}
use Rattle.tool_input.proofs.input.read_input.Given as goal

abbrev pub invariant-loop-reader : goal.invariant-loop-reader
invariant-loop-reader g l = record {
  room : 0 < vec_len l.chunk;
  got : Consumes (g.R.CountedRead.remaining l.fn.reader) (g.R.CountedRead.remaining l.reader) l.input.items;
  counted : IsSoFar (g.R.CountedRead.account l.reader) (vec_len l.input);
}

abbrev pub decreases-loop-reader : goal.decreases-loop-reader
decreases-loop-reader g l = most_octets + 1 - vec_len l.input
