use Rattle.std.proofs.Common.{map, take}
use Rattle.walk_line.specs.Runs.{event_of}
use Rattle.walk_frames.specs.Runs.{ArePut}
use Rattle.walk_frames.proofs.runs.put_all.Given as goal

-- the events so far were put out
abbrev pub invariant-loop-i : goal.invariant-loop-i
invariant-loop-i l = ArePut l.fn.sender l.sender (map event_of (take l.i l.events)) l.fn.out.items l.out.items
