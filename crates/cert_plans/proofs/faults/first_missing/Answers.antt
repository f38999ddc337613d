use Rattle.std.proofs.Common.{◌≡◌, sym, ◌∙◌, subst, ◌<◌, length, get_or}
use Rattle.cert_plans.proofs.FaultsLearning.{due_same, reached_more, missed}
use Rattle.cert_plans.proofs.faults.first_missing.Goals as goal

pub returns-in-Some : goal.returns-in-Some
returns-in-Some c =
    let fields = c.args.format.now.fields in
    let i = c.loop-index.index in
    let d = c.field-item.result in
    let here : i < length fields = subst (λ z. i < length z) c.as_slice-field-items.ensures c.loop-index-test.true in
    let is : d ≡ get_or fields i d = subst (λ z. d ≡ get_or z i d) c.as_slice-field-items.ensures c.field-item.is in
    let due = c.is_due-is_due.ensures ∙ due_same c.args.direction c.args.format.now i d _ (c.requires.right i here) in
    missed c.args.direction c.args.format.now c.args.known.now i d c.is_due-is_due.result here is due c.loop-index.invariant c.in-Some.side (sym c.missing_side.ensures ∙ c.in-Some.is)

pub loop-index-preserved : goal.loop-index-preserved
loop-index-preserved c =
    let fields = c.args.format.now.fields in
    let i = c.loop-index.index in
    let d = c.field-item.result in
    let here : i < length fields = subst (λ z. i < length z) c.as_slice-field-items.ensures c.loop-index-test.true in
    let is : d ≡ get_or fields i d = subst (λ z. d ≡ get_or z i d) c.as_slice-field-items.ensures c.field-item.is in
    let due = c.is_due-is_due.ensures ∙ due_same c.args.direction c.args.format.now i d _ (c.requires.right i here) in
    reached_more c.args.direction c.args.format.now c.args.known.now i d c.is_due-is_due.result here is due c.loop-index.invariant (sym c.missing_side.ensures ∙ c.in_default.is)
