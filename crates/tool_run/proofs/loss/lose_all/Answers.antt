use Rattle.std.proofs.Common.{◌∙◌, ap, ◌∷◌, [], ◌++◌}
use Rattle.std.proofs.lemmas.List.{get_or_read}
use Rattle.sem_filling.specs.declared.filling.Item.{Item}
use Rattle.tool_run.proofs.Losing.{begin, ending, fault_here, onward}
use Rattle.tool_run.proofs.SenderLemmas.{of_item}
use Rattle.tool_run.proofs.loss.lose_all.Goals as goal

pub loop-i-init : goal.loop-i-init
loop-i-init c =
    begin c.args.accepted.now c.args.most c.args.start c.args.items.now _ _ _ (c.in_ok-push.ensures.ok ∙ ap (λ hs. hs ++ c.in_ok-copy.field-0 ∷ []) c.new-held.ensures ∙ ap (λ x. x ∷ []) (c.in_ok-copy.ensures ∙ c.context.ensures)) c.none-tally.ensures (c.new-journal.ensures c.args.accepted.now)

pub refuse-requires : goal.refuse-requires
refuse-requires c = of_item c.args.accepted.now _ _ c.in-Some.fault (rw c.in-Some.is at c.in_ok-refused.ensures)

pub returns-in-Some : goal.returns-in-Some
returns-in-Some c =
    let d : Item = record { header = []; asked = [] } in
    let x = get_or_read c.args.items.now c.loop-i.i c.index-items-i.result c.loop-i-test.true c.index-items-i.is d in
    fault_here c.args.accepted.now c.args.most c.args.start c.args.items.now c.args.form c.loop-i.i d _ _ _ _ _ c.in-Some.fault c.refuse.result c.loop-i-test.true x c.loop-i.invariant (rw c.in-Some.is at c.in_ok-refused.ensures) c.refuse.ensures

pub loop-i-preserved : goal.loop-i-preserved
loop-i-preserved c =
    let d : Item = record { header = []; asked = [] } in
    let x = get_or_read c.args.items.now c.loop-i.i c.index-items-i.result c.loop-i-test.true c.index-items-i.is d in
    onward c.args.accepted.now c.args.most c.args.start c.args.items.now c.loop-i.i d _ _ _ _ _ _ _ _ _ c.loop-i-test.true x c.loop-i.invariant (rw c.in_default.is at c.in_ok-refused.ensures)

pub returns : goal.returns
returns c = ending c.args.accepted.now c.args.most c.args.start c.args.items.now c.args.form _ _ _ _ _ c.print_losses.result c.loop-i-test.false c.loop-i.invariant c.print_losses.ensures
