use Rattle.std.proofs.Common.{get_or}
use Rattle.walk_line.proofs.receiver.Receiver.take_next.Goals as goal

pub returns-in-Err-clause-err : goal.returns-in-Err-clause-err
returns-in-Err-clause-err c = (c.in-Err.ensures.err.0, c.in-Err.ensures.err.1 (get_or c.args.octets.now 0 0))
