use Rattle.std.proofs.Common.{take}
use Rattle.sem_context.specs.Entries.{bits_at}
use Rattle.walk_loss.specs.Unserved.{AreUnserved}
use Rattle.walk_loss.proofs.unserved.unserved_among.Given as goal

-- what is told of those so far
abbrev pub invariant-loop-i : goal.invariant-loop-i
invariant-loop-i l = AreUnserved (bits_at l.context) (take l.i l.uses) l.found
