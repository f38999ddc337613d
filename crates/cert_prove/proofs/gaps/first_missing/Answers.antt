use Rattle.std.proofs.Common.{◌≡◌, sym, ◌∙◌, subst, ◌<◌, length, get_or}
use Rattle.cert_plans.specs.Knowing.{shows}
use Rattle.cert_plans.proofs.FaultsLearning.{due_same}
use Rattle.cert_prove.proofs.GapsWanted.{learnt_more}
use Rattle.cert_prove.proofs.gaps.first_missing.Goals as goal

pub loop-index-preserved : goal.loop-index-preserved
loop-index-preserved c =
    let fields = c.args.format.now.fields in
    let i = c.loop-index.index in
    let d = c.index-fields-index.result in
    let here : i < length fields = subst (λ z. i < length z) c.as_slice-fields.ensures c.loop-index-test.true in
    let is : d ≡ get_or fields i d = subst (λ z. d ≡ get_or z i d) c.as_slice-fields.ensures c.index-fields-index.is in
    let due = due_same c.args.direction c.args.format.now i d _ (c.requires.flags.right i here) in
    learnt_more c.args.direction c.args.format.now i d here is _ due (shows c.args.known.now) (sym c.is_field_learnt-is_known.ensures ∙ c.if-not-is_known.false) c.loop-index.invariant
