use Rattle.std.proofs.Common.{arith}
use Rattle.walk_line.specs.Hearing.{nothing}
use Rattle.walk_line.proofs.PagesKept.{none_kept}
use Rattle.walk_line.proofs.receiver.Receiver.take.Goals as goal

pub invariant_of-self-in-Err : goal.invariant_of-self-in-Err
invariant_of-self-in-Err c = (rw c.in-Err.ensures.flows c.self.invariant.0, rw c.clear-in-Err.ensures (omega arith), rw c.clear-in-Err.ensures nothing, none_kept c.self.inside.accepted.now _ _ c.clear.ensures.items)
