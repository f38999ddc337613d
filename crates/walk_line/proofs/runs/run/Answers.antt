use Rattle.std.proofs.Common.{map}
use Rattle.walk_line.specs.Runs.{event_of}
use Rattle.walk_line.proofs.StatesWhole.{is_heard, is_run}
use Rattle.walk_line.proofs.runs.run.Goals as goal

pub returns-in-Ok-clause-ok : goal.returns-in-Ok-clause-ok
returns-in-Ok-clause-ok c =
    is_run c.args.version c.args.accepted.now c.in_ok-sender.sender c.put_all.new.sender (map event_of c.args.events.now) c.new-octets.result.items c.put_all.new.out.items c.in_ok-sender.ensures c.in-Ok.ensures.ok c.new-octets.ensures.items

pub returns-in-Ok-clause-heard : goal.returns-in-Ok-clause-heard
returns-in-Ok-clause-heard c =
    is_heard c.args.version c.args.accepted.now (map event_of c.args.events.now) c.put_all.new.out.items
    (is_run c.args.version c.args.accepted.now c.in_ok-sender.sender c.put_all.new.sender (map event_of c.args.events.now) c.new-octets.result.items c.put_all.new.out.items c.in_ok-sender.ensures c.in-Ok.ensures.ok c.new-octets.ensures.items)
