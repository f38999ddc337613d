use Rattle.std.proofs.Common.{◌∙◌, ap, []}
use Rattle.std.proofs.lemmas.List.{get_or_read}
use Rattle.sem_filling.specs.declared.filling.Item.{Item}
use Rattle.sem_profile.specs.Resolved.{Resolved}
use Rattle.tool_items.specs.Advise.{shared_fields}
use Rattle.tool_run.proofs.PrintedAdvising.{traced_end, traced_on, traced_start}
use Rattle.tool_run.proofs.advise.advise_all.Goals as goal

pub loop-i-init : goal.loop-i-init
loop-i-init c = traced_start c.args.accepted.now c.args.start c.args.items.now _ c.args.lost _ _ c.in_ok-trends.ensures c.new-refused.ensures.bytes

pub loop-i-preserved : goal.loop-i-preserved
loop-i-preserved c =
    let d : Item = record { header = []; asked = [] } in
    let x = get_or_read c.args.items.now c.loop-i.i c.index-items-i.result c.loop-i-test.true c.index-items-i.is d in
    traced_on c.args.accepted.now c.args.start c.args.items.now _ c.args.lost c.loop-i.i d _ _ _ _ _ _ _ c.loop-i-test.true x c.loop-i.invariant c.in_ok-trace_one.ensures

pub returns : goal.returns
returns c =
    let methods = c.methods.ensures ∙ ap (λ (q : Resolved). q.methods) c.profile-profile.ensures in
    let top = c.top.ensures ∙ ap (λ (q : Resolved). q.top) c.profile-profile.ensures in
    traced_end c.args.accepted.now c.args.start c.args.items.now _ c.args.lost c.args.form _ _ _ _ _ c.print_advice.result c.loop-i-test.false c.loop-i.invariant c.as_str.ensures.value
    (c.shared_fields-count.ensures ∙ (λ j. shared_fields (methods j) (top j))) c.print_advice.ensures
