use Rattle.walk_engine.proofs.SendingFirst.{of_format}
use Rattle.walk_engine.proofs.sender.sent_in_format.Goals as goal

pub returns-in-Some-3-clause-is : goal.returns-in-Some-3-clause-is
returns-in-Some-3-clause-is c =
    let written = rw c.in-Some-3.is at c.in_ok-written.ensures in
    of_format c.args.accepted.now c.args.context.now c.args.item.now c.profile.result.now c.keeps-2.ensures c.profile.ensures c.keeps.ensures
    c.top_place-place.result c.top_place-place.ensures.top c.args.number c.in-Some.format c.in-Some-3.written c.in_format.result c.in-Some.ensures written c.in_format.ensures
