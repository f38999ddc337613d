use Rattle.std.proofs.Common.{length}
use Rattle.walk_session.proofs.Packing.{put_plain, put_blames}
use Rattle.walk_session.proofs.packer.send_best.Goals as goal

pub returns-in-Ok-clause-ok : goal.returns-in-Ok-clause-ok
returns-in-Ok-clause-ok c =
    put_plain c.args.accepted.now c.args.context.now c.args.item.now c.put.new.context c.in-Ok.found c.args.room.now c.put.new.room c.put.result c.in-Ok.ensures.packed c.put.ensures.ok

pub returns-in-Ok-clause-fault : goal.returns-in-Ok-clause-fault
returns-in-Ok-clause-fault c = put_blames c.args.accepted.now c.args.context.now c.args.item.now c.in-Ok.found (length c.args.room.now) c.put.result c.in-Ok.ensures.packed c.put.ensures.fault
