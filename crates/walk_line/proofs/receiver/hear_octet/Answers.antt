use Rattle.walk_line.proofs.LinesBegun.{octet_fault}
use Rattle.walk_line.proofs.receiver.hear_octet.Goals as goal

pub returns-in-Err-clause-err : goal.returns-in-Err-clause-err
returns-in-Err-clause-err c =
    let blames = rw c.in_ok-push.ensures.ok at c.in-Err.ensures.err.1 in
    (c.in-Err.ensures.err.0, octet_fault c.args.accepted.now c.args.contexts.now.items c.args.rest.now c.args.octet c.in-Err.fault c.requires.part blames)
