use Rattle.std.proofs.Common.{subst, ◌≤◌, length, map}
use Rattle.std.proofs.lemmas.List.{take_all}
use Rattle.walk_line.specs.Runs.{event_of, ArePut}
use Rattle.walk_line.proofs.StatesWhole.{none_put, one_put, blames_run}
use Rattle.walk_line.proofs.runs.put_all.Goals as goal

pub loop-i-init : goal.loop-i-init
loop-i-init c = none_put c.args.sender.now c.args.out.now.items

pub loop-i-preserved : goal.loop-i-preserved
loop-i-preserved c =
    let one = c.in-Ok.ensures.ok in
    one_put c.args.sender.now c.loop-i.sender c.put.new.sender c.args.events.now c.loop-i.i c.index-events-i.result c.args.out.now.items c.loop-i.out.items c.put.new.out.items one.0
    c.loop-i-test.true c.index-events-i.is c.loop-i.invariant one.1 one.2

pub returns-in-Err-clause-fault : goal.returns-in-Err-clause-fault
returns-in-Err-clause-fault c =
    rw c.refused_at.ensures
    (blames_run c.args.sender.now c.loop-i.sender c.args.events.now c.loop-i.i c.index-events-i.result c.args.out.now.items c.loop-i.out.items c.in-Err.fault
    c.loop-i-test.true c.index-events-i.is c.loop-i.invariant c.in-Err.ensures.fault)

pub returns-clause-ok : goal.returns-clause-ok
returns-clause-ok c =
    let past : length c.args.events.now ≤ c.loop-i.i = c.loop-i-test.false in
    subst (λ es. ArePut c.args.sender.now c.loop-i.sender (map event_of es) c.args.out.now.items c.loop-i.out.items) (take_all c.loop-i.i c.args.events.now past) c.loop-i.invariant
