use Rattle.walk_engine.proofs.ReadingTaken.{if_taken}
use Rattle.walk_engine.proofs.reader.unpack_drawn.Goals as goal

pub returns-clause-read : goal.returns-clause-read
returns-clause-read c =
    let whole = rw c.in-Some-judged.is at c.in_ok-judged.ensures in
    if_taken c.args.accepted.now c.args.context.now c.in-Some.filling whole.fits _ _ _ c.read_with.ensures.taken
