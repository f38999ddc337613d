use Rattle.std.proofs.Common.{[]}
use Rattle.sem_filling.specs.declared.filling.Item.{Item}
use Rattle.std.proofs.lemmas.List.{get_or_read}
use Rattle.tool_run.specs.Printed.{FaultsItem, SaysItem, stop_of}
use Rattle.tool_run.proofs.PrintedReplying.{printed_start, printed_on, printed_stop, printed_end}
use Rattle.tool_run.proofs.packets.pack_all.Goals as goal

pub loop-i-init : goal.loop-i-init
loop-i-init c = printed_start (SaysItem c.args.shape c.args.accepted.now) (FaultsItem c.args.shape c.args.accepted.now) (stop_of c.args.shape) c.args.shows c.args.start c.args.items.now _ c.new-output.ensures.bytes

pub returns-then-refused : goal.returns-then-refused
returns-then-refused c =
    let d : Item = record { header = []; asked = [] } in
    let x = get_or_read c.args.items.now c.loop-i.i c.index-items-i.result c.loop-i-test.true c.index-items-i.is d in
    printed_stop (SaysItem c.args.shape c.args.accepted.now) (FaultsItem c.args.shape c.args.accepted.now) (stop_of c.args.shape) c.args.shows c.args.start c.args.items.now _ c.stop_status.ensures c.loop-i.i d _ _ _ _ _ _ c.loop-i-test.true x c.loop-i.invariant c.in_ok-refused.ensures c.if-refused.true

pub loop-i-preserved : goal.loop-i-preserved
loop-i-preserved c =
    let d : Item = record { header = []; asked = [] } in
    let x = get_or_read c.args.items.now c.loop-i.i c.index-items-i.result c.loop-i-test.true c.index-items-i.is d in
    printed_on (SaysItem c.args.shape c.args.accepted.now) (FaultsItem c.args.shape c.args.accepted.now) (stop_of c.args.shape) c.args.shows c.args.start c.args.items.now c.loop-i.i d _ _ _ _ _ _ c.loop-i-test.true x c.loop-i.invariant c.in_ok-refused.ensures c.if-refused.false

pub returns : goal.returns
returns c = printed_end (SaysItem c.args.shape c.args.accepted.now) (FaultsItem c.args.shape c.args.accepted.now) (stop_of c.args.shape) c.args.shows c.args.start c.args.items.now _ _ _ c.finish.result c.loop-i-test.false c.loop-i.invariant c.finish.ensures
