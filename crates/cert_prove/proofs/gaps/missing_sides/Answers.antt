use Rattle.std.proofs.Common.{◌≡◌, ◌∙◌, ◌<◌, length, get_or, subst}
use Rattle.cert_plans.proofs.FaultsLearning.{due_same}
use Rattle.cert_prove.proofs.GapsWanted.{missing_more}
use Rattle.cert_prove.proofs.gaps.missing_sides.Goals as goal

pub loop-index-preserved : goal.loop-index-preserved
loop-index-preserved c =
    let fields = c.args.format.now.fields in
    let i = c.loop-index.index in
    let d = c.field-item.result in
    let here : i < length fields = subst (λ z. i < length z) c.as_slice-field-items.ensures c.loop-index-test.true in
    let is : d ≡ get_or fields i d = subst (λ z. d ≡ get_or z i d) c.as_slice-field-items.ensures c.field-item.is in
    let due = c.is_due-is_due.ensures ∙ due_same c.args.direction c.args.format.now i d _ (c.requires.right i here) in
    λ facts knows. missing_more c.args.direction c.args.format.now c.args.known.now facts knows i d c.is_due-is_due.result here is due c.loop-index.sides c.push_missing.new.sides _ c.in_ok-push_missing.ensures (c.loop-index.invariant facts knows)
