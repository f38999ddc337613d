use Rattle.std.proofs.Common.{map}
use Rattle.walk_line.specs.Runs.{event_of}
use Rattle.walk_frames.proofs.Puttings.{is_given, is_run, run_stopped}
use Rattle.walk_frames.proofs.runs.run.Goals as goal

pub returns-in-Ok-clause-ok : goal.returns-in-Ok-clause-ok
returns-in-Ok-clause-ok c =
    is_run c.args.accepted.now c.args.lost c.in_ok-sender.sender c.put_all.new.sender (map event_of c.args.events.now) c.new-octets.result.items c.put_all.new.out.items c.in_ok-sender.ensures c.in-Ok.ensures.ok c.new-octets.ensures.items

pub returns-in-Ok-clause-given : goal.returns-in-Ok-clause-given
returns-in-Ok-clause-given c =
    is_given c.args.accepted.now c.args.lost (map event_of c.args.events.now) c.put_all.new.out.items
    (is_run c.args.accepted.now c.args.lost c.in_ok-sender.sender c.put_all.new.sender (map event_of c.args.events.now) c.new-octets.result.items c.put_all.new.out.items c.in_ok-sender.ensures c.in-Ok.ensures.ok c.new-octets.ensures.items)

pub returns-in-Err-clause-fault : goal.returns-in-Err-clause-fault
returns-in-Err-clause-fault c =
    run_stopped c.args.accepted.now c.args.lost c.in_ok-sender.sender (map event_of c.args.events.now) c.in-Err.fault c.in_ok-sender.ensures c.in-Err.ensures.fault
