use Rattle.std.proofs.Common.{[], sym, subst}
use Rattle.std.specs.Prelude.{string_bytes}
use Rattle.std.proofs.lemmas.List.{get_or_read}
use Rattle.sem_filling.specs.declared.filling.Item.{Item}
use Rattle.tool_run.specs.Printed.{SentBy}
use Rattle.tool_run.proofs.SendersLines.{sending_end, sending_on, sending_start, sending_stop}
use Rattle.tool_run.proofs.senders.send_all.Goals as goal

pub loop-i-init : goal.loop-i-init
loop-i-init c = sending_start c.args.shape c.args.shows c.args.accepted.now c.args.start c.args.items.now _ c.new-output.ensures.bytes

pub returns-then-refused : goal.returns-then-refused
returns-then-refused c =
    let d : Item = record { header = []; asked = [] } in
    let x = get_or_read c.args.items.now c.loop-i.i c.index-items-i.result c.loop-i-test.true c.index-items-i.is d in
    subst (λ st. SentBy c.args.shape c.args.shows c.args.accepted.now c.args.start 1 c.args.items.now st (string_bytes c.send_one.new.output)) (sym c.stop_status.ensures)
    (sending_stop c.args.shape c.args.shows c.args.accepted.now c.args.start c.args.items.now c.loop-i.i d _ _ _ _ _ _ c.loop-i-test.true x c.loop-i.invariant c.in_ok-refused.ensures c.if-refused.true)

pub loop-i-preserved : goal.loop-i-preserved
loop-i-preserved c =
    let d : Item = record { header = []; asked = [] } in
    let x = get_or_read c.args.items.now c.loop-i.i c.index-items-i.result c.loop-i-test.true c.index-items-i.is d in
    sending_on c.args.shape c.args.shows c.args.accepted.now c.args.start c.args.items.now c.loop-i.i d _ _ _ _ _ _ c.loop-i-test.true x c.loop-i.invariant c.in_ok-refused.ensures c.if-refused.false

pub returns : goal.returns
returns c = sending_end c.args.shape c.args.shows c.args.accepted.now c.args.start c.args.items.now _ _ _ _ c.finish.result c.loop-i-test.false c.loop-i.invariant c.context.ensures c.finish.ensures
